-- What the scan of a text finds is written so, and what is written so is found.
use Rattle.std.specs.Prelude.{◌≡◌, ◌≢◌, ℕ, ◌<◌, ◌≤◌, ◌^◌, Bool, true, false, ◌&&◌, nat_le, ◌==◌, List, [], ◌∷◌, ◌++◌, length, Option, Some, None, Ok, Err, decimal, if◌then◌else◌, bytes_eq, refl}
use Rattle.std.specs.List.{list_all}
use Rattle.std.specs.Cmp.{first_so, second_so}
use Rattle.std.specs.Str.Parse.{digits_value, AllDigits, ParsesUnsigned}
use Rattle.std.specs.Str.{is_utf8}
use Rattle.std.proofs.Common.{sym, ap, ◌∙◌, arith, get_or, suc, zero}
use Rattle.std.proofs.lemmas.Bool.Decides.{nat_tests, Decides-eqb}
use Rattle.std.proofs.lemmas.Slice.Eq.{bytes_eq-Decides}
use Rattle.std.proofs.lemmas.Str.{IsUtf8-from_ascii, is_utf8-from_IsUtf8}
use Rattle.std.proofs.lemmas.Str.Parse.{IsNumeralModel, numerals_by_value, tells_digits, digit_from_value, parse_plain}
use Rattle.std.proofs.lemmas.Fmt.{decimal_is_IsNumeral, parse-decimal, decimal_digit, first_decimal, decimal-digits_value, IsAscii-decimal, decimal_injective}
use Rattle.http_query.specs.Numbers.{stripped, number_of, is_plain}

-- a test that gave something: it passed
pub if_some : {A : Type 0} (t : Bool) (x y : A) → (if t then Some x else None) ≡ Some y → (t ≡ true) × (x ≡ y)
if_some true x y e = (refl, cc)
if_some false x y e = let no : ⊥ = cc in absurd no

same_byte : (byte : ℕ) → (byte == byte) ≡ true
same_byte byte = (Decides-eqb byte byte).1 refl

-- fronts

pub stripped-append : (front rest : List ℕ) → stripped front (front ++ rest) ≡ Some rest
unfolding stripped
stripped-append [] rest = refl
stripped-append (byte ∷ front) rest =
    ap (λ same. if same then stripped front (front ++ rest) else None) (same_byte byte) ∙ stripped-append front rest

first_byte : (byte first : ℕ) (same : Bool) (found : Option (List ℕ)) (bytes tail rest : List ℕ) → (byte == first) ≡ same
    → (if same then found else None) ≡ Some rest → (found ≡ Some rest → bytes ≡ tail) → first ∷ bytes ≡ byte ∷ tail
first_byte byte first true found bytes tail rest e h more = let is : byte ≡ first = (Decides-eqb byte first).0 e in let tail_is = more h in cc
first_byte byte first false found bytes tail rest e h more = cc

pub stripped_some : (front bytes rest : List ℕ) → stripped front bytes ≡ Some rest → bytes ≡ front ++ rest
unfolding stripped
stripped_some [] bytes rest e = cc
stripped_some (byte ∷ front) [] rest e = cc
stripped_some (byte ∷ front) (first ∷ bytes) rest e =
    first_byte byte first (byte == first) (stripped front bytes) bytes (front ++ rest) rest refl e (stripped_some front bytes rest)

pub stripped_none : (front bytes : List ℕ) → ((rest : List ℕ) → bytes ≢ front ++ rest) → stripped front bytes ≡ None
stripped_none front bytes other = by_found (stripped front bytes) refl
  where
    by_found : (found : Option (List ℕ)) → stripped front bytes ≡ found → stripped front bytes ≡ None
    by_found None e = e
    by_found (Some rest) e = absurd (other rest (stripped_some front bytes rest e))

-- numbers

own : IsNumeralModel (AllDigits 10) (digits_value 10)
own = numerals_by_value (AllDigits 10) tells_digits

abbrev pub is_digit : ℕ → Bool
is_digit byte = nat_le 48 byte && nat_le byte 57

all_digits : (text : List ℕ) → AllDigits 10 text → list_all is_digit text ≡ true
all_digits [] all = refl
all_digits (byte ∷ text) all = let range = digit_from_value byte all.0 in let later = all_digits text all.1 in grind (arith, nat_tests)

pub number_of-decimal : (most n : ℕ) → n ≤ most → most < 2 ^ 64 → number_of most (decimal n) ≡ Some n
unfolding number_of
number_of-decimal most n small fits =
    ap (λ v. if nat_le v most && bytes_eq (decimal n) (decimal v) then Some v else None) (decimal_is_IsNumeral n (omega arith)).1
    ∙ ap (λ b. if b && bytes_eq (decimal n) (decimal n) then Some n else None) (within n most small)
    ∙ ap (λ b. if b then Some n else None) ((bytes_eq-Decides (decimal n) (decimal n)).1 refl)
  where
    within : (a b : ℕ) → a ≤ b → nat_le a b ≡ true
    within a b h = grind (arith, nat_tests)

pub number_of_some : (most : ℕ) (text : List ℕ) (n : ℕ) → number_of most text ≡ Some n → (text ≡ decimal n) × (n ≤ most)
unfolding number_of
number_of_some most text n e =
    let v = digits_value 10 text in
    let tests = if_some (nat_le v most && bytes_eq text (decimal v)) v n e in
    let same : text ≡ decimal v = (bytes_eq-Decides text (decimal v)).0 (second_so (nat_le v most) (bytes_eq text (decimal v)) tests.0) in
    let small : v ≤ most = within v most (first_so (nat_le v most) (bytes_eq text (decimal v)) tests.0) in
    (same ∙ ap decimal tests.1, omega (arith, tests.1))
  where
    within : (a b : ℕ) → nat_le a b ≡ true → a ≤ b
    within a b h = grind (arith, nat_tests)

pub number_of_none : (most : ℕ) (text : List ℕ) → ((n : ℕ) → n ≤ most → text ≢ decimal n) → number_of most text ≡ None
number_of_none most text other = by_found (number_of most text) refl
  where
    by_found : (found : Option ℕ) → number_of most text ≡ found → number_of most text ≡ None
    by_found None e = e
    by_found (Some n) e = let is = number_of_some most text n e in absurd (other n is.1 is.0)

plain_first : (text : List ℕ) → 48 < get_or text 0 0 → get_or text 0 0 ≤ 57 → is_plain text ≡ true
plain_first [] low high = absurd (omega arith)
plain_first (only ∷ []) low high = grind (arith, nat_tests)
plain_first (first ∷ second ∷ rest) low high = grind (arith, nat_tests)

first_is_digit : (text : List ℕ) → AllDigits 10 text → 0 < length text → get_or text 0 0 ≤ 57
first_is_digit [] all some = absurd (omega arith)
first_is_digit (first ∷ text) all some = let range = digit_from_value first all.0 in omega (arith, range)

-- each number's text begins as a number's does
plain_decimal : (n : ℕ) → n < 2 ^ 64 → is_plain (decimal n) ≡ true
plain_decimal zero fits = ap is_plain (decimal_digit 0 (omega arith))
plain_decimal (suc n) fits =
    let numeral = decimal_is_IsNumeral (suc n) fits in
    plain_first (decimal (suc n)) (first_decimal (suc n) (omega arith) fits) (first_is_digit (decimal (suc n)) numeral.0.1 numeral.0.0)

no_plus : (text : List ℕ) → is_plain text ≡ true → get_or text 0 0 ≢ 43
no_plus [] plain e = cc
no_plus (only ∷ []) plain e = grind (arith, nat_tests)
no_plus (first ∷ second ∷ rest) plain e = grind (arith, nat_tests)

no_zero : (text : List ℕ) → is_plain text ≡ true → get_or text 0 0 ≡ 48 → length text ≡ 1
no_zero [] plain e = cc
no_zero (only ∷ []) plain e = refl
no_zero (first ∷ second ∷ rest) plain e = absurd (grind (arith, nat_tests))

-- a text that begins otherwise writes no number
pub number_of_not_plain : (most : ℕ) (text : List ℕ) → most < 2 ^ 64 → is_plain text ≡ false → None ≡ number_of most text
number_of_not_plain most text fits other = sym (number_of_none most text (λ n small e.
    let plain : is_plain (decimal n) ≡ true = plain_decimal n (omega arith) in
    let same : is_plain text ≡ is_plain (decimal n) = ap is_plain e in cc))

pub number_of_no_text : (most : ℕ) (text : List ℕ) → most < 2 ^ 64 → (is_utf8 text ≡ true → ⊥) → None ≡ number_of most text
number_of_no_text most text fits none = sym (number_of_none most text (λ n small e.
    none (ap is_utf8 e ∙ is_utf8-from_IsUtf8 (decimal n) (IsUtf8-from_ascii (decimal n) (IsAscii-decimal n (omega arith))))))

pub number_of_refused : {E : Type 0} (most : ℕ) (text : List ℕ) (error : E) → most < 2 ^ 64 → ParsesUnsigned 64 10 text (Err error) → None ≡ number_of most text
number_of_refused {E = E} most text error fits parse = sym (number_of_none most text (λ n small e.
    let is : Err error ≡ Ok n = parse-decimal {E = E} 64 n text (Err error) (omega arith) (omega arith) e parse in cc))

is_decimal : (text : List ℕ) (n : ℕ) → is_plain text ≡ true → ParsesUnsigned {E = ℕ} 64 10 text (Ok n) → text ≡ decimal n
is_decimal text n plain parse =
    let found = parse_plain own {E = ℕ} 64 text (Ok n) parse (no_plus text plain) in
    sym (decimal-digits_value own text found.0.0 found.0.1 (no_zero text plain) found.0.2) ∙ ap decimal (sym found.1)

pub number_of_read : (most : ℕ) (text : List ℕ) (n : ℕ) → most < 2 ^ 64 → is_plain text ≡ true → ParsesUnsigned {E = ℕ} 64 10 text (Ok n) → n ≤ most → Some n ≡ number_of most text
number_of_read most text n fits plain parse small =
    sym (ap (number_of most) (is_decimal text n plain parse) ∙ number_of-decimal most n small fits)

pub number_of_too_large : (most : ℕ) (text : List ℕ) (n : ℕ) → most < 2 ^ 64 → is_plain text ≡ true → ParsesUnsigned {E = ℕ} 64 10 text (Ok n) → most < n → n < 2 ^ 64 → None ≡ number_of most text
number_of_too_large most text n fits plain parse large fits' = sym (number_of_none most text (λ m small e.
    let same : m ≡ n = decimal_injective m n (omega arith) fits' (sym e ∙ is_decimal text n plain parse) in omega (arith, same)))
