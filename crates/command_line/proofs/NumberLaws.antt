-- Which texts are numbers, as the library's `parse` says it.
use Rattle.std.specs.Prelude.{◌≡◌, ℕ, ◌<◌, Bool, true, false, ◌&&◌, nat_lt, List, [], ◌∷◌, length}
use Rattle.std.specs.Prelude.{Some, None, if◌then◌else◌, refl, Decides}
use Rattle.std.specs.List.{list_all}
use Rattle.std.specs.Char.{digit_value}
use Rattle.std.specs.Str.Parse.{digits_value, without_leading_plus, AllDigits, IsNumeral}
use Rattle.std.proofs.Common.{sym, ap, ◌∙◌}
use Rattle.std.proofs.lemmas.Bool.Decides.{Decides-and, Decides-ltb}
use Rattle.command_line.specs.Line.{number_of, is_number}

abbrev are_digits : List ℕ → Bool
are_digits = list_all (λ byte. nat_lt (digit_value byte) 10)

digits_tell : (text : List ℕ) → Decides (are_digits text) (AllDigits 10 text)
digits_tell [] = (λ _. tt, λ _. refl)
digits_tell (byte ∷ text) =
    Decides-and (nat_lt (digit_value byte) 10) (are_digits text) (Decides-ltb (digit_value byte) 10) (digits_tell text)

-- the text is a numeral, and what it writes is below a limit
abbrev pub IsNumber : ℕ → List ℕ → Type 0
IsNumber limit digits = IsNumeral 10 digits × (digits_value 10 digits < limit)

number_tells : (limit : ℕ) (digits : List ℕ) → Decides (is_number limit digits) (IsNumber limit digits)
number_tells limit digits =
    let all = Decides-and (nat_lt 0 (length digits)) (are_digits digits && nat_lt (digits_value 10 digits) limit)
    (Decides-ltb 0 (length digits)) (Decides-and (are_digits digits) (nat_lt (digits_value 10 digits) limit) (digits_tell digits)
    (Decides-ltb (digits_value 10 digits) limit)) in
    (λ e. let h = all.0 e in ((h.0, h.1.0), h.1.1), λ h. all.1 (h.0.0, (h.0.1, h.1)))

pub number_read : (limit : ℕ) (text : List ℕ) (n : ℕ) → IsNumber limit (without_leading_plus text)
    → n ≡ digits_value 10 (without_leading_plus text) → Some n ≡ number_of limit text
unfolding number_of
number_read limit text n is e =
    let digits = without_leading_plus text in
    ap (λ v. Some v) e ∙ sym (ap (λ b. if b then Some (digits_value 10 digits) else None) ((number_tells limit digits).1 is))

by_test : (limit : ℕ) (digits : List ℕ) → ¬ (IsNumber limit digits) → (b : Bool) → is_number limit digits ≡ b
    → None ≡ (if is_number limit digits then Some (digits_value 10 digits) else None)
by_test limit digits not_one true e = absurd (not_one ((number_tells limit digits).0 e))
by_test limit digits not_one false e = sym (ap (λ b. if b then Some (digits_value 10 digits) else None) e)

pub number_refused : (limit : ℕ) (text : List ℕ) → ¬ (IsNumber limit (without_leading_plus text)) → None ≡ number_of limit text
unfolding number_of
number_refused limit text not_one =
    by_test limit (without_leading_plus text) not_one (is_number limit (without_leading_plus text)) refl
