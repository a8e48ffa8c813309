-- Receipts of hosts stay sound where a host changes and keeps them, where one comes that has none, and where a host has one more.
use Rattle.std.specs.Prelude.{◌≡◌, ◌≢◌, ◌<◌, ◌≤◌, ℕ, zero, suc, ◌+◌, ◌-◌, List, [], ◌∷◌, ◌++◌, length, drop, Option, Some, None, slice_get, slice_set, ◌⊎◌}
use Rattle.std.proofs.Common.{refl, sym, ap, ◌∙◌, subst, inl, inr, arith, length-append}
use Rattle.std.proofs.lemmas.List.{length-drop}
use Rattle.receipts.specs.declared.session.SessionName.{SessionName}
use Rattle.receipts.specs.declared.session.Token.{Token}
use Rattle.office_model.specs.Places.{AtEach, Differ}
use Rattle.office_model.specs.PlacesLaws.{Differ-longer, in_longer, in_set}
use Rattle.receipts.specs.declared.receipt.Receipt.{Receipt}
use Rattle.receipts.specs.Receipts.{receipt_limit}
use Rattle.office_model.specs.Office.{Host, StandsAt, AtEachReceipt, AreReceipts, AreEnded, IsUnspent}
use Rattle.office_model.specs.events.Commit.{with_receipt}

-- ---- receipts that were there before

-- each receipt of some hosts is one of others, at the same place
abbrev pub AreAmong : List Host → List Host → Type 0
AreAmong hosts' hosts = (i n : ℕ) (receipt : Receipt) → StandsAt hosts' i n receipt → StandsAt hosts i n receipt

pub among_ended : (epoch : ℕ) (hosts' hosts : List Host) → AreAmong hosts' hosts → AreEnded epoch hosts → AreEnded epoch hosts'
among_ended epoch hosts' hosts among was = record {
  differ = λ i j m n a b at_a at_b same. was.differ i j m n a b (among i m a at_a) (among j n b at_b) same;
  up_to_now = λ i n receipt at. was.up_to_now i n receipt (among i n receipt at);
}

pub set_among : (hosts : List Host) (p : ℕ) (old new : Host) → slice_get hosts p ≡ Some old → new.receipts ≡ old.receipts
    → AreAmong (slice_set hosts p new) hosts
set_among hosts p old new was same i n receipt at = step (in_set hosts p new i at.0 at.1)
  where
    step : ((i ≢ p) × (slice_get hosts i ≡ Some at.0)) ⊎ ((i ≡ p) × (at.0 ≡ new) × (p < length hosts)) → StandsAt hosts i n receipt
    step (inl f) = (at.0, f.1, at.2)
    step (inr f) =
        let receipts : at.0.receipts ≡ old.receipts = ap (λ (h : Host). h.receipts) f.1 ∙ same in
        (old, ap (slice_get hosts) f.0 ∙ was, ap (λ (rs : List Receipt). slice_get rs n) (sym receipts) ∙ at.2)

pub added_among : (hosts : List Host) (new : Host) → new.receipts ≡ [] → AreAmong (hosts ++ new ∷ []) hosts
added_among hosts new none i n receipt at = step (in_longer hosts new i at.0 at.1)
  where
    nothing : slice_get {X = Receipt} [] n ≡ Some receipt → StandsAt hosts i n receipt
    nothing e = absurd (cc)

    step : (slice_get hosts i ≡ Some at.0) ⊎ ((i ≡ length hosts) × (at.0 ≡ new)) → StandsAt hosts i n receipt
    step (inl f) = (at.0, f, at.2)
    step (inr f) =
        let receipts : at.0.receipts ≡ [] = ap (λ (h : Host). h.receipts) f.1 ∙ none in
        nothing (ap (λ (rs : List Receipt). slice_get rs n) (sym receipts) ∙ at.2)

-- ---- without the oldest

none_more : (n : ℕ) → 0 + n ≡ n
none_more n = omega arith

one_before : (k n : ℕ) → suc k + n ≡ suc (k + n)
one_before k n = omega arith

module _ {A : Type 0} where
  pub slice_get-drop : (k : ℕ) (xs : List A) (i : ℕ) → slice_get (drop k xs) i ≡ slice_get xs (k + i)
  slice_get-drop zero xs i = ap (slice_get xs) (sym (none_more i))
  slice_get-drop (suc k) [] i = nothing (suc k + i)
    where
      nothing : (i : ℕ) → None ≡ slice_get {X = A} [] i
      nothing i = refl
  slice_get-drop (suc k) (x ∷ xs) i = slice_get-drop k xs i ∙ ap (slice_get (x ∷ xs)) (sym (one_before k i))

  AtEach-drop : (P : A → Type 0) (k : ℕ) (xs : List A) → AtEach P xs → AtEach P (drop k xs)
  AtEach-drop P k xs each i x at = each (k + i) x (sym (slice_get-drop k xs i) ∙ at)

  Differ-drop : {K : Type 0} (key : A → K) (k : ℕ) (xs : List A) → Differ key xs → Differ key (drop k xs)
  Differ-drop key k xs differ i j a b at_i at_j same =
      let e : k + i ≡ k + j = differ (k + i) (k + j) a b (sym (slice_get-drop k xs i) ∙ at_i) (sym (slice_get-drop k xs j) ∙ at_j) same in
      omega arith

-- ---- one receipt more

-- how many of the oldest leave
abbrev pub leaving : Option Token → List Receipt → ℕ
leaving None receipts = 0
leaving (Some token) receipts = length receipts + 1 - receipt_limit

-- what stands among them was there, further on, or is the new one, of this token and this name
pub in_receipts : (token : Option Token) (name : SessionName) (number : ℕ) (receipts : List Receipt) (n : ℕ) (receipt : Receipt)
    → slice_get (with_receipt token name number receipts) n ≡ Some receipt
    → (slice_get receipts (leaving token receipts + n) ≡ Some receipt)
    ⊎ ((n ≡ length (drop (leaving token receipts) receipts)) × (receipt.name ≡ name) × (token ≡ Some receipt.token))
in_receipts None name number receipts n receipt e = inl (ap (slice_get receipts) (none_more n) ∙ e)
in_receipts (Some token) name number receipts n receipt e =
    step (in_longer (drop (length receipts + 1 - receipt_limit) receipts) new n receipt e)
  where
    new : Receipt
    new = record { token = token; name = name; number = number }

    step : (slice_get (drop (length receipts + 1 - receipt_limit) receipts) n ≡ Some receipt)
        ⊎ ((n ≡ length (drop (length receipts + 1 - receipt_limit) receipts)) × (receipt ≡ new))
        → (slice_get receipts (length receipts + 1 - receipt_limit + n) ≡ Some receipt)
        ⊎ ((n ≡ length (drop (length receipts + 1 - receipt_limit) receipts)) × (receipt.name ≡ name) × (Some token ≡ Some receipt.token))
    step (inl f) = inl (sym (slice_get-drop (length receipts + 1 - receipt_limit) receipts n) ∙ f)
    step (inr f) = inr (f.0, ap (λ (r : Receipt). r.name) f.1, sym (ap (λ (r : Receipt). Some r.token) f.1))

pub AreReceipts-more : (token : Option Token) (name : SessionName) (number : ℕ) (receipts : List Receipt) → AreReceipts receipts
    → IsUnspent receipts token → AreReceipts (with_receipt token name number receipts)
AreReceipts-more None name number receipts was unspent = was
AreReceipts-more (Some token) name number receipts was unspent = record {
  few = fit (length receipts) was.few;
  tokens_differ = Differ-longer (λ (r : Receipt). r.token) (drop (length receipts + 1 - receipt_limit) receipts) new
      (Differ-drop (λ (r : Receipt). r.token) (length receipts + 1 - receipt_limit) receipts was.tokens_differ)
      (AtEach-drop (λ (r : Receipt). r.token ≢ token) (length receipts + 1 - receipt_limit) receipts unspent);
}
  where
    new : Receipt
    new = record { token = token; name = name; number = number }

    count : length (drop (length receipts + 1 - receipt_limit) receipts ++ new ∷ []) ≡ length receipts - (length receipts + 1 - receipt_limit) + 1
    count = length-append (drop (length receipts + 1 - receipt_limit) receipts) (new ∷ [])
        ∙ ap (λ n. n + 1) (length-drop (length receipts + 1 - receipt_limit) receipts)

    less : (n : ℕ) → n ≤ receipt_limit → n - (n + 1 - receipt_limit) + 1 ≤ receipt_limit
    less n few = omega arith

    fit : (n : ℕ) → n ≤ receipt_limit → length (drop (length receipts + 1 - receipt_limit) receipts ++ new ∷ []) ≤ receipt_limit
    fit n few = subst (λ m. m ≤ receipt_limit) (sym count) (less (length receipts) was.few)

-- ---- hosts, one of which has a receipt more

module _ (hosts : List Host) (p : ℕ) (old new : Host) (token : Option Token) (name : SessionName) (number : ℕ)
    (was : slice_get hosts p ≡ Some old) (more : new.receipts ≡ with_receipt token name number old.receipts) where
  -- where a receipt stood
  abbrev pub Stood : ℕ → ℕ → Receipt → Type 0
  Stood i n receipt = (q : ℕ) × StandsAt hosts i q receipt
      × (((i ≢ p) × (q ≡ n)) ⊎ ((i ≡ p) × (q ≡ leaving token old.receipts + n)))

  -- it is the new one
  abbrev pub IsNew : ℕ → ℕ → Receipt → Type 0
  IsNew i n receipt = (i ≡ p) × (n ≡ length (drop (leaving token old.receipts) old.receipts)) × (receipt.name ≡ name)

  pub stood : (i n : ℕ) (receipt : Receipt) → StandsAt (slice_set hosts p new) i n receipt → Stood i n receipt ⊎ IsNew i n receipt
  stood i n receipt at = step (in_set hosts p new i at.0 at.1)
    where
      here : i ≡ p → (slice_get old.receipts (leaving token old.receipts + n) ≡ Some receipt)
          ⊎ ((n ≡ length (drop (leaving token old.receipts) old.receipts)) × (receipt.name ≡ name) × (token ≡ Some receipt.token))
          → Stood i n receipt ⊎ IsNew i n receipt
      here same (inl f) = inl (leaving token old.receipts + n, (old, ap (slice_get hosts) same ∙ was, f), inr (same, refl))
      here same (inr f) = inr (same, f.0, f.1)

      step : ((i ≢ p) × (slice_get hosts i ≡ Some at.0)) ⊎ ((i ≡ p) × (at.0 ≡ new) × (p < length hosts)) → Stood i n receipt ⊎ IsNew i n receipt
      step (inl f) = inl (n, (at.0, f.1, at.2), inl (f.0, refl))
      step (inr f) =
          let receipts : at.0.receipts ≡ with_receipt token name number old.receipts = ap (λ (h : Host). h.receipts) f.1 ∙ more in
          here f.0 (in_receipts token name number old.receipts n receipt (ap (λ (rs : List Receipt). slice_get rs n) (sym receipts) ∙ at.2))

  -- what holds of each receipt, of those of before and of the new one
  pub AtEachReceipt-more : (P : Receipt → Type 0) → AtEachReceipt P hosts → ((receipt : Receipt) → receipt.name ≡ name → P receipt)
      → AtEachReceipt P (slice_set hosts p new)
  AtEachReceipt-more P each one i n receipt at = step (stood i n receipt at)
    where
      step : Stood i n receipt ⊎ IsNew i n receipt → P receipt
      step (inl f) = each i f.0 receipt f.1
      step (inr f) = one receipt f.2

  same_places : (i j m n q r : ℕ) → i ≡ j → q ≡ r → ((i ≢ p) × (q ≡ m)) ⊎ ((i ≡ p) × (q ≡ leaving token old.receipts + m))
      → ((j ≢ p) × (r ≡ n)) ⊎ ((j ≡ p) × (r ≡ leaving token old.receipts + n)) → m ≡ n
  same_places i j m n q r e f (inl a) (inl b) = sym a.1 ∙ f ∙ b.1
  same_places i j m n q r e f (inl a) (inr b) = absurd (a.0 (e ∙ b.0))
  same_places i j m n q r e f (inr a) (inl b) = absurd (b.0 (sym e ∙ a.0))
  same_places i j m n q r e f (inr a) (inr b) = plus (leaving token old.receipts) m n (sym a.1 ∙ f ∙ b.1)
    where
      plus : (k m n : ℕ) → k + m ≡ k + n → m ≡ n
      plus k m n e = omega arith

  pub AreEnded-more : (epoch : ℕ) → AreEnded epoch hosts → AtEachReceipt (λ (r : Receipt). r.name ≢ name) hosts → name.epoch ≤ epoch
      → AreEnded epoch (slice_set hosts p new)
  AreEnded-more epoch were fresh ended = record {
    differ = λ i j m n a b at_a at_b same. step i j m n a b same (stood i m a at_a) (stood j n b at_b);
    up_to_now = AtEachReceipt-more (λ (r : Receipt). r.name.epoch ≤ epoch) were.up_to_now
        (λ r is. subst (λ (x : SessionName). x.epoch ≤ epoch) (sym is) ended);
  }
    where
      step : (i j m n : ℕ) (a b : Receipt) → a.name ≡ b.name → Stood i m a ⊎ IsNew i m a → Stood j n b ⊎ IsNew j n b → (i ≡ j) × (m ≡ n)
      step i j m n a b same (inl f) (inl g) =
          let e = were.differ i j f.0 g.0 a b f.1 g.1 same in (e.0, same_places i j m n f.0 g.0 e.0 e.1 f.2 g.2)
      step i j m n a b same (inl f) (inr g) = absurd (fresh i f.0 a f.1 (same ∙ g.2))
      step i j m n a b same (inr f) (inl g) = absurd (fresh j g.0 b g.1 (sym same ∙ f.2))
      step i j m n a b same (inr f) (inr g) = (f.0 ∙ sym g.0, f.1 ∙ sym g.1)
