-- Bytes in order are numbers in order.
use Rattle.std.specs.Prelude.{◌+◌, ◌*◌, ◌<◌, ℕ, List, [], ◌∷◌, slice_index}

-- the number that bytes are behind another number
abbrev pub number_from : ℕ → List ℕ → ℕ
number_from n [] = n
number_from n (byte ∷ bytes) = number_from (n * 256 + byte) bytes

abbrev pub AreBytes : List ℕ → Type 0
AreBytes bytes = (i : ℕ) → slice_index bytes i < 256
