-- The text of a session is read as that session.
use Rattle.std.proofs.Common.{◌≡◌, ℕ, suc, ◌+◌, ◌-◌, ◌<◌, ◌≤◌, ◌^◌, ◌==◌, Bool, true, not, ◌&&◌, if◌then◌else◌, List, [], ◌∷◌, ◌++◌, length, take, drop, Some, option_map, option_and_then, IsUtf8, refl, ap, ◌∙◌, arith, decimal, lit<}
use Rattle.std.specs.List.{before_first, after_first, position_or_len, list_all}
use Rattle.std.specs.Cmp.{first_so, second_so}
use Rattle.std.specs.Str.Parse.{AllDigits}
use Rattle.std.proofs.lemmas.Bool.Decides.{nat_tests}
use Rattle.std.proofs.lemmas.Fmt.{decimal_is_IsNumeral, IsAscii-decimal}
use Rattle.std.proofs.lemmas.Str.{IsUtf8-append, IsUtf8-from_ascii}
use Rattle.std.proofs.lemmas.Str.Parse.{digit_from_value}
use Rattle.json.proofs.Printed.Utf8.{IsUtf8-are_ascii}
use Rattle.http_query.specs.Numbers.{number_of}
use Rattle.http_query.proofs.ScanLaws.{number_of-decimal}
use Rattle.receipts.specs.declared.session.SessionName.{SessionName}
use Rattle.receipts.specs.Session.{session_text}
use Rattle.reply_bodies.specs.Laws.{IsSession}
use Rattle.listing_back.specs.Members.{session_of}

-- ---- a text cut at the first byte that passes

take-length-append : (xs ys : List ℕ) → take (length xs) (xs ++ ys) ≡ xs
take-length-append [] ys = refl
take-length-append (x ∷ xs) ys = ap (λ t. x ∷ t) (take-length-append xs ys)

drop-behind : (xs ys : List ℕ) (c : ℕ) → drop (length xs + 1) (xs ++ c ∷ ys) ≡ ys
drop-behind [] ys c = refl
drop-behind (x ∷ xs) ys c = ap (λ n. drop n (x ∷ xs ++ c ∷ ys)) (one_more (length xs)) ∙ drop-behind xs ys c
  where
    one_more : (n : ℕ) → suc n + 1 ≡ suc (n + 1)
    one_more n = omega arith

module _ (p : ℕ → Bool) where
  -- no byte passes
  abbrev NonePass : List ℕ → Type 0
  NonePass xs = list_all (λ x. not (p x)) xs ≡ true

  position-past : (xs ys : List ℕ) → NonePass xs → position_or_len p (xs ++ ys) ≡ length xs + position_or_len p ys
  position-past [] ys h = omega arith
  position-past (x ∷ xs) ys h =
      ap (λ b. if b then 1 + position_or_len p (xs ++ ys) else 0) (first_so _ _ h)
      ∙ ap (λ n. 1 + n) (position-past xs ys (second_so (not (p x)) (list_all (λ x. not (p x)) xs) h)) ∙ omega arith

  cut-place : (xs ys : List ℕ) (c : ℕ) → NonePass xs → p c ≡ true → position_or_len p (xs ++ c ∷ ys) ≡ length xs
  cut-place xs ys c h is =
      position-past xs (c ∷ ys) h ∙ ap (λ n. length xs + n) (ap (λ b. if not b then 1 + position_or_len p ys else 0) is) ∙ omega arith

  cut-before : (xs ys : List ℕ) (c : ℕ) → NonePass xs → p c ≡ true → before_first p (xs ++ c ∷ ys) ≡ xs
  cut-before xs ys c h is = ap (λ n. take n (xs ++ c ∷ ys)) (cut-place xs ys c h is) ∙ take-length-append xs (c ∷ ys)

  cut-after : (xs ys : List ℕ) (c : ℕ) → NonePass xs → p c ≡ true → after_first p (xs ++ c ∷ ys) ≡ ys
  cut-after xs ys c h is = ap (λ n. drop (n + 1) (xs ++ c ∷ ys)) (cut-place xs ys c h is) ∙ drop-behind xs ys c

-- ---- digits

abbrev dash : ℕ → Bool
dash byte = byte == 45

digit-no_dash : (c : ℕ) → 48 ≤ c → c ≤ 57 → not (c == 45) ≡ true
digit-no_dash c a b = grind (arith, nat_tests)

and_true : (a b : Bool) → a ≡ true → b ≡ true → (a && b) ≡ true
and_true a b e f = λ i. e i && f i

digits-no_dash : (ds : List ℕ) → AllDigits 10 ds → NonePass dash ds
digits-no_dash [] h = refl
digits-no_dash (d ∷ ds) h =
    let range = digit_from_value d h.0 in and_true _ _ (digit-no_dash d (omega (arith, range)) (omega (arith, range))) (digits-no_dash ds h.1)

decimal-no_dash : (n : ℕ) → n < 2 ^ 64 → NonePass dash (decimal n)
decimal-no_dash n fits = digits-no_dash (decimal n) (decimal_is_IsNumeral n fits).0.1

-- ---- sessions

pub session-back : (name : SessionName) → IsSession name → session_of (session_text name) ≡ Some name
unfolding session_of
session-back name fits =
    let plain = decimal-no_dash name.epoch fits.0 in
    (λ i. option_and_then (λ epoch. option_map (λ sequence. record { epoch = epoch; sequence = sequence })
    (number_of (2 ^ 64 - 1) (cut-after dash (decimal name.epoch) (decimal name.sequence) 45 plain refl i)))
    (number_of (2 ^ 64 - 1) (cut-before dash (decimal name.epoch) (decimal name.sequence) 45 plain refl i)))
    ∙ (λ i. option_and_then (λ epoch. option_map (λ sequence. record { epoch = epoch; sequence = sequence })
    (number_of-decimal (2 ^ 64 - 1) name.sequence (omega (arith, fits.1)) (lit< tt) i))
    (number_of-decimal (2 ^ 64 - 1) name.epoch (omega (arith, fits.0)) (lit< tt) i))

digits-utf8 : (n : ℕ) → n < 2 ^ 64 → IsUtf8 (decimal n)
digits-utf8 n fits = IsUtf8-from_ascii (decimal n) (IsAscii-decimal n fits)

pub session-utf8 : (name : SessionName) → IsSession name → IsUtf8 (session_text name)
session-utf8 name fits =
    IsUtf8-append (decimal name.epoch) (45 ∷ decimal name.sequence) (digits-utf8 name.epoch fits.0)
    (IsUtf8-append (45 ∷ []) (decimal name.sequence) (IsUtf8-are_ascii _ refl) (digits-utf8 name.sequence fits.1))
