-- Fields of literal names, and decimal numbers in their values, as the grammar has them.
use Rattle.std.proofs.Common.{◌≡◌, ℕ, ◌<◌, ◌^◌, Bool, true, false, ◌&&◌, List, [], ◌∷◌, length, reverse, refl, ap, ◌∙◌, arith, codes, decimal, nat_lt, if◌then◌else◌, append_assoc}
use Rattle.std.specs.Char.{digit_value, is_ascii_digit}
use Rattle.std.specs.Cmp.{first_so, second_so}
use Rattle.std.specs.List.{list_all, All, AllByRecursion}
use Rattle.std.specs.Str.Parse.{AllDigits, digits_value}
use Rattle.std.proofs.lemmas.Bool.Decides.{nat_tests}
use Rattle.std.proofs.lemmas.Fmt.{decimal_is_IsNumeral}
use Rattle.std.proofs.lemmas.List.{reverse-append}
use Rattle.std.proofs.lemmas.List.Elements.{All-from_recursion}
use Rattle.std.proofs.lemmas.List.Folds.{list_all-append}
use Rattle.std.proofs.lemmas.List.Sums.{AllPass-from_list_all}
use Rattle.std.proofs.lemmas.Str.Parse.{digit_from_value}
use Rattle.httparse.specs.Grammar.{crlf, Field, print_field, IsField, IsToken, is_token_byte, is_ows, is_value_byte, skip_ows, trim_ows}
use Rattle.httparse.proofs.TrimLemmas.{trim_ows_space}
use Rattle.http_heads.specs.Fields.{is_number}
use Rattle.http_wire.specs.Message.{field_line}
use Rattle.http_client.specs.Plain.{is_value}

-- ---- fields

-- a field with this value
abbrev pub field : List ℕ → List ℕ → Field
field name value = record { name = name; raw = 32 ∷ value; end = crlf }

pub field-prints : (name value : List ℕ) → print_field (field name value) ≡ field_line name value
unfolding field_line
field-prints name value = simp append_assoc

pub is_field : (name value : List ℕ) → IsToken name → is_value value ≡ true → IsField (field name value)
is_field name value token plain = record { name = token; raw = AllPass-from_list_all is_value_byte (32 ∷ value) plain }

-- each field is one
pub are_fields : (fields : List Field) → AllByRecursion IsField fields → All IsField fields
are_fields fields h = All-from_recursion IsField fields h

pub token_from : (name : List ℕ) → 0 < length name → list_all is_token_byte name ≡ true → IsToken name
token_from name some all = (some, AllPass-from_list_all is_token_byte name all)

pub type_token : IsToken (codes "Content-Type")
unfolding is_token_byte
type_token = token_from (codes "Content-Type") (omega arith) refl

pub length_token : IsToken (codes "Content-Length")
unfolding is_token_byte
length_token = token_from (codes "Content-Length") (omega arith) refl

pub allow_token : IsToken (codes "Allow")
unfolding is_token_byte
allow_token = token_from (codes "Allow") (omega arith) refl

pub connection_token : IsToken (codes "Connection")
unfolding is_token_byte
connection_token = token_from (codes "Connection") (omega arith) refl

pub host_token : IsToken (codes "Host")
unfolding is_token_byte
host_token = token_from (codes "Host") (omega arith) refl

-- ---- numbers

and_true : (a b : Bool) → a ≡ true → b ≡ true → (a && b) ≡ true
and_true a b e f = λ i. e i && f i

digit_byte : (c : ℕ) → digit_value c < 10 → is_ascii_digit c ≡ true
digit_byte c h = let range = digit_from_value c h in grind (arith, nat_tests)

digit_bytes : (ds : List ℕ) → AllDigits 10 ds → list_all is_ascii_digit ds ≡ true
digit_bytes [] h = refl
digit_bytes (d ∷ ds) h = and_true (is_ascii_digit d) (list_all is_ascii_digit ds) (digit_byte d h.0) (digit_bytes ds h.1)

no_blank : (c : ℕ) → is_ascii_digit c ≡ true → is_ows c ≡ false
no_blank c e = grind (arith, nat_tests)

a_value : (c : ℕ) → is_ascii_digit c ≡ true → is_value_byte c ≡ true
a_value c e = grind (arith, nat_tests)

skip_digits : (ds : List ℕ) → list_all is_ascii_digit ds ≡ true → skip_ows ds ≡ ds
skip_digits [] e = refl
skip_digits (d ∷ ds) e = ap (λ b. if b then skip_ows ds else d ∷ ds) (no_blank d (first_so _ _ e))

reverse_digits : (ds : List ℕ) → list_all is_ascii_digit ds ≡ true → list_all is_ascii_digit (reverse ds) ≡ true
reverse_digits [] e = refl
reverse_digits (d ∷ ds) e =
    ap (list_all is_ascii_digit) (reverse-append (d ∷ []) ds)
    ∙ list_all-append is_ascii_digit (reverse ds) (d ∷ [])
    ∙ and_true _ _ (reverse_digits ds (second_so (is_ascii_digit d) (list_all is_ascii_digit ds) e)) (and_true _ _ (first_so _ _ e) refl)

digits_decimal : (n : ℕ) → n < 2 ^ 64 → list_all is_ascii_digit (decimal n) ≡ true
digits_decimal n fits = digit_bytes (decimal n) (decimal_is_IsNumeral n fits).0.1

-- a number behind a space is read as it is
pub trim_decimal : (n : ℕ) → n < 2 ^ 64 → trim_ows (32 ∷ decimal n) ≡ decimal n
trim_decimal n fits =
    trim_ows_space (decimal n) (skip_digits (decimal n) (digits_decimal n fits))
    (skip_digits (reverse (decimal n)) (reverse_digits (decimal n) (digits_decimal n fits)))

pub is_number_decimal : (n : ℕ) → n < 2 ^ 64 → is_number (decimal n) ≡ true
is_number_decimal n fits = and_true _ _ (some (length (decimal n)) (decimal_is_IsNumeral n fits).0.0) (digits_decimal n fits)
  where
    some : (k : ℕ) → 0 < k → nat_lt 0 k ≡ true
    some k h = grind (arith, nat_tests)

pub value_decimal : (n : ℕ) → n < 2 ^ 64 → digits_value 10 (decimal n) ≡ n
value_decimal n fits = (decimal_is_IsNumeral n fits).1

values_digits : (ds : List ℕ) → list_all is_ascii_digit ds ≡ true → list_all is_value_byte ds ≡ true
values_digits [] e = refl
values_digits (d ∷ ds) e =
    and_true _ _ (a_value d (first_so _ _ e)) (values_digits ds (second_so (is_ascii_digit d) (list_all is_ascii_digit ds) e))

pub is_value_decimal : (n : ℕ) → n < 2 ^ 64 → list_all is_value_byte (decimal n) ≡ true
is_value_decimal n fits = values_digits (decimal n) (digits_decimal n fits)
