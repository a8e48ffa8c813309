-- The numbers that texts write.
use Rattle.std.specs.Prelude.{ℕ, ℤ, pos, ◌+◌, ◌-◌, ◌*◌, ◌^◌, Bool, false, ◌&&◌, nat_lt, nat_le, ◌==◌, List, [], ◌∷◌, length, Option, Some, None, codes, decimal, if◌then◌else◌, bytes_eq}
use Rattle.std.specs.List.{list_all}
use Rattle.std.specs.Option.{option_map, option_map_or}
use Rattle.std.specs.Str.Parse.{digits_value}
use Rattle.std.proofs.Math.IntN.{neg_ℤ}

-- what follows a prefix, if the bytes begin with it
unfoldable pub stripped : List ℕ → List ℕ → Option (List ℕ)
stripped [] bytes = Some bytes
stripped (byte ∷ prefix) [] = None
stripped (byte ∷ prefix) (first ∷ bytes) = if byte == first then stripped prefix bytes else None

-- the number of at most `most` that a text writes in decimal
unfoldable pub number_of : ℕ → List ℕ → Option ℕ
number_of most text =
    let number = digits_value 10 text in
    if nat_le number most && bytes_eq text (decimal number) then Some number else None

-- the text begins as a number's does: with 1 to 9, or it is one digit
abbrev pub is_plain : List ℕ → Bool
is_plain [] = false
is_plain (only ∷ []) = nat_le 48 only && nat_le only 57
is_plain (first ∷ second ∷ rest) = nat_lt 48 first && nat_le first 57

abbrev pub is_octal_digit : ℕ → Bool
is_octal_digit byte = nat_le 48 byte && nat_le byte 55

-- what octal digits write
abbrev pub octal_value : List ℕ → ℕ
octal_value [] = 0
octal_value (byte ∷ text) = (byte - 48) * 8 ^ length text + octal_value text

-- the mode that a text of 1 to 4 octal digits writes
unfoldable pub mode_of : List ℕ → Option ℕ
mode_of text =
    if nat_lt 0 (length text) && nat_le (length text) 4 && list_all is_octal_digit text then Some (octal_value text) else None

-- the signed number of 64 bits that a text writes in decimal, with a `-` before it if it is negative
unfoldable pub seconds_of : List ℕ → Option ℤ
seconds_of text =
    option_map_or (λ digits. option_map (λ n. neg_ℤ (pos n)) (number_of (2 ^ 63) digits))
    (stripped (codes "-") text) (option_map (λ n. pos n) (number_of (2 ^ 63 - 1) text))
