-- Parts of a name: what follows a prefix or stands before a byte, and numbers.
use Rattle.std.specs.Prelude.{ℕ, Bool, false, ◌&&◌, nat_lt, nat_le, ◌==◌, List, [], ◌∷◌, take, drop, Option, Some, None, decimal, slice_index, option_and_then, if◌then◌else◌, bytes_eq}
use Rattle.std.specs.List.{position_or_len}
use Rattle.std.specs.Option.{option_map}
use Rattle.std.specs.Str.Parse.{digits_value}

infixl 10 ◌>>=◌
abbrev pub ◌>>=◌ : {A B : Type 0} → Option A → (A → Option B) → Option B
o >>= f = option_and_then f o

-- what follows the prefix, if the bytes begin with it
unfoldable pub stripped : List ℕ → List ℕ → Option (List ℕ)
stripped [] bytes = Some bytes
stripped (byte ∷ prefix) [] = None
stripped (byte ∷ prefix) (first ∷ bytes) = if byte == first then stripped prefix bytes else None

-- where a byte stands first, or how many bytes there are
unfoldable pub place_of : ℕ → List ℕ → ℕ
place_of stop bytes = position_or_len (λ byte. byte == stop) bytes

-- the bytes before the first byte of a prefix, and those behind the prefix, if it stands there
unfoldable pub field : List ℕ → List ℕ → Option (List ℕ × List ℕ)
field prefix bytes =
    let place = place_of (slice_index prefix 0) bytes in
    option_map (λ rest. (take place bytes, rest)) (stripped prefix (drop place bytes))

-- the number of at most so much that a text writes in decimal
unfoldable pub number_of : ℕ → List ℕ → Option ℕ
number_of most text =
    let number = digits_value 10 text in
    if nat_le number most && bytes_eq text (decimal number) then Some number else None

-- the text begins as a number's does: with 1 to 9, or it is one digit
abbrev pub is_plain : List ℕ → Bool
is_plain [] = false
is_plain (only ∷ []) = nat_le 48 only && nat_le only 57
is_plain (first ∷ second ∷ rest) = nat_lt 48 first && nat_le first 57
