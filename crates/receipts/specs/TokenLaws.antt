-- What holds of sets of tokens and of receipts.
--     has_is      a token is in a set exactly if it is one of the set's
--     without_with      a token that is put into a set and taken out again leaves the set as it was
--     IsSetOf-none, IsSetOf-more      the set of no tokens, and of one more
--     AreReceipts-none, AreReceipts-more, AreReceipts-newest      no receipts, one more, and one more if there are 256
use Rattle.std.proofs.Common.{◌≡◌, ◌<◌, ◌+◌, ℕ, Bool, true, false, cond, ◌||◌, List, [], ◌∷◌, ◌++◌, length, bytes_eq, refl, sym, ap, ap₂, ◌∙◌, arith, length-append, drop}
use Rattle.std.specs.List.{list_any, IsDistinct, AllByRecursion}
use Rattle.std.specs.declared.cmp.Ordering.{Ordering}
use Rattle.std.specs.declared.cmp.Ordering.TheVariants.{Less, Equal, Greater}
use Rattle.std.specs.Ordering.{is_eq, match_ordering}
use Rattle.std.specs.BTreeMap.{is_at}
use Rattle.std.specs.Cmp.Lexicographic.{nat_list_cmp_total, nat_list_eq_equiv}
use Rattle.std.proofs.lemmas.Cmp.{tied_itself}
use Rattle.std.proofs.lemmas.Map.Text.{is_eq-slice_cmp}
use Rattle.std.proofs.lemmas.Bool.{or_parts}
use Rattle.receipts.specs.declared.session.Token.{Token}
use Rattle.receipts.specs.declared.receipt.Receipt.{Receipt}
use Rattle.receipts.specs.Session.{is_same_token}
use Rattle.receipts.specs.TokenSets.{Tokens, token_cmp, has, count, no_tokens, with_token, without_token, IsSetOf}
use Rattle.receipts.specs.Receipts.{receipt_limit, has_token, HaveOneToken, AreReceipts}

or_turned : (a b : Bool) → (a || b) ≡ (b || a)
or_turned true true = refl
or_turned true false = refl
or_turned false true = refl
or_turned false false = refl

or_thrice : (a b c : Bool) → (a || (b || c)) ≡ ((a || b) || c)
or_thrice true b c = refl
or_thrice false b c = refl

-- ---- a set and the order

same_as : (token other : Token) → is_at (token_cmp token) other ≡ is_same_token token other
same_as token other = is_eq-slice_cmp token.bytes other.bytes

itself : (token : Token) → is_eq (token_cmp token token) ≡ true
itself token = ap is_eq (tied_itself nat_list_cmp_total token.bytes)

-- what is put in at its place and taken out again leaves what was there
pub without_with : (tokens : Tokens) (token : Token) → has tokens token ≡ false → without_token (with_token tokens token) token ≡ tokens
without_with [] token fresh = ap (λ (b : Bool). cond b [] (token ∷ [])) (itself token)
without_with (first ∷ rest) token fresh =
    let parts = or_parts (is_eq (token_cmp token first)) (has rest token) fresh in
    step (token_cmp token first) refl parts.0 (without_with rest token parts.1)
  where
    step : (r : Ordering) → token_cmp token first ≡ r → is_eq (token_cmp token first) ≡ false → without_token (with_token rest token) token ≡ rest
        → without_token (match_ordering r (token ∷ first ∷ rest) (first ∷ rest) (first ∷ with_token rest token)) token ≡ first ∷ rest
    step Less is other later = ap (λ (b : Bool). cond b (first ∷ rest) (token ∷ without_token (first ∷ rest) token)) (itself token)
    step Equal is other later = absurd (cc (ap is_eq is))
    step Greater is other later = ap (λ (b : Bool). cond b (with_token rest token) (first ∷ without_token (with_token rest token) token)) other ∙ ap (λ (ts : List Token). first ∷ ts) later

has_is : (tokens : Tokens) (token : Token) → has tokens token ≡ list_any (λ (kept : Token). is_same_token token kept) tokens
has_is [] token = refl
has_is (first ∷ rest) token = ap₂ (λ (a b : Bool). a || b) (same_as token first) (has_is rest token)

-- ---- the tokens of a list

flips : (a b : Token) → is_same_token a b ≡ is_same_token b a
flips a b = bytes_eq_flips a.bytes b.bytes
  where
    bytes_eq_flips : (xs ys : List ℕ) → bytes_eq xs ys ≡ bytes_eq ys xs
    bytes_eq_flips xs ys = nat_list_eq_equiv.symm xs ys

pub IsSetOf-none : IsSetOf [] no_tokens
IsSetOf-none = record { has = λ token. refl; count = refl }

pub IsSetOf-more : (list : List Token) (tokens : Tokens) (token : Token) → IsSetOf list tokens → has tokens token ≡ false → IsSetOf (list ++ token ∷ []) (with_token tokens token)
IsSetOf-more list tokens token set fresh = record {
  has = λ other. has_with tokens other fresh ∙ ap (λ (b : Bool). b || is_same_token token other) (set.has other) ∙ sym (any_more list other);
  count = count_with tokens fresh ∙ ap (λ (n : ℕ). n + 1) set.count ∙ sym (length-append list (token ∷ []));
}
  where
    any_more : (list : List Token) (other : Token) → list_any (λ (kept : Token). is_same_token kept other) (list ++ token ∷ []) ≡ list_any (λ (kept : Token). is_same_token kept other) list || is_same_token token other
    any_more [] other = or_turned (is_same_token token other) false
    any_more (first ∷ rest) other = ap (λ (b : Bool). is_same_token first other || b) (any_more rest other) ∙ or_thrice (is_same_token first other) (list_any (λ (kept : Token). is_same_token kept other) rest) (is_same_token token other)

    count_with : (tokens : Tokens) → has tokens token ≡ false → count (with_token tokens token) ≡ count tokens + 1
    count_with [] fresh = refl
    count_with (first ∷ rest) fresh =
        let parts = or_parts (is_eq (token_cmp token first)) (has rest token) fresh in
        step (token_cmp token first) refl parts.0 (count_with rest parts.1)
      where
        step : (r : Ordering) → token_cmp token first ≡ r → is_eq (token_cmp token first) ≡ false → count (with_token rest token) ≡ count rest + 1
            → count (match_ordering r (token ∷ first ∷ rest) (first ∷ rest) (first ∷ with_token rest token)) ≡ count (first ∷ rest) + 1
        step Less is other later = omega arith
        step Equal is other later = absurd (cc (ap is_eq is))
        step Greater is other later = omega arith

    has_with : (tokens : Tokens) (other : Token) → has tokens token ≡ false → has (with_token tokens token) other ≡ has tokens other || is_same_token token other
    has_with [] other fresh = or_turned (is_at (token_cmp other) token) false ∙ same_as other token ∙ flips other token
    has_with (first ∷ rest) other fresh =
        let parts = or_parts (is_eq (token_cmp token first)) (has rest token) fresh in
        step (token_cmp token first) refl parts.0 (has_with rest other parts.1)
      where
        step : (r : Ordering) → token_cmp token first ≡ r → is_eq (token_cmp token first) ≡ false → has (with_token rest token) other ≡ has rest other || is_same_token token other
            → has (match_ordering r (token ∷ first ∷ rest) (first ∷ rest) (first ∷ with_token rest token)) other ≡ has (first ∷ rest) other || is_same_token token other
        step Less is apart later = or_turned (is_at (token_cmp other) token) (has (first ∷ rest) other) ∙ ap (λ (b : Bool). has (first ∷ rest) other || b) (same_as other token ∙ flips other token)
        step Equal is apart later = absurd (cc (ap is_eq is))
        step Greater is apart later = ap (λ (b : Bool). is_at (token_cmp other) first || b) later ∙ or_thrice (is_at (token_cmp other) first) (has rest other) (is_same_token token other)

-- ---- receipts that differ

pub AreReceipts-none : AreReceipts []
unfolding IsDistinct
AreReceipts-none = record { few = omega arith; differ = tt }

each_more : (P : Receipt → Type 0) (receipts : List Receipt) (receipt : Receipt) → AllByRecursion P receipts → P receipt → AllByRecursion P (receipts ++ receipt ∷ [])
each_more P [] receipt all here = (here, tt)
each_more P (first ∷ rest) receipt all here = (all.0, each_more P rest receipt all.1 here)

differ_more : (receipts : List Receipt) (receipt : Receipt) → IsDistinct HaveOneToken receipts → has_token receipts receipt.token ≡ false → IsDistinct HaveOneToken (receipts ++ receipt ∷ [])
unfolding IsDistinct
differ_more [] receipt differ fresh = (tt, tt)
differ_more (first ∷ rest) receipt differ fresh =
    let parts = or_parts (is_same_token first.token receipt.token) (has_token rest receipt.token) fresh in
    (each_more (λ r. HaveOneToken first r ≡ false) rest receipt differ.0 parts.0, differ_more rest receipt differ.1 parts.1)

pub AreReceipts-more : (receipts : List Receipt) (receipt : Receipt) → AreReceipts receipts → length receipts < receipt_limit → has_token receipts receipt.token ≡ false → AreReceipts (receipts ++ receipt ∷ [])
AreReceipts-more receipts receipt are room fresh = record {
  few = let long = length-append receipts (receipt ∷ []) in omega arith;
  differ = differ_more receipts receipt are.differ fresh;
}

rest_of : (receipts : List Receipt) → AreReceipts receipts → AreReceipts (drop 1 receipts)
unfolding IsDistinct
rest_of [] are = are
rest_of (first ∷ rest) are = record { few = let few = are.few in omega arith; differ = are.differ.1 }

pub AreReceipts-newest : (receipts : List Receipt) (receipt : Receipt) → AreReceipts receipts → length receipts ≡ receipt_limit → has_token receipts receipt.token ≡ false → AreReceipts (drop 1 receipts ++ receipt ∷ [])
AreReceipts-newest receipts receipt are full fresh =
    AreReceipts-more (drop 1 receipts) receipt (rest_of receipts are) (shorter receipts full) (still receipts fresh)
  where
    shorter : (receipts : List Receipt) → length receipts ≡ receipt_limit → length (drop 1 receipts) < receipt_limit
    shorter [] full = omega (arith, full)
    shorter (first ∷ rest) full = omega (arith, full)

    still : (receipts : List Receipt) → has_token receipts receipt.token ≡ false → has_token (drop 1 receipts) receipt.token ≡ false
    still [] fresh = refl
    still (first ∷ rest) fresh = (or_parts (is_same_token first.token receipt.token) (has_token rest receipt.token) fresh).1
