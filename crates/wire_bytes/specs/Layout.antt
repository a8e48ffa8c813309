-- The bytes of each kind of field, and which values have a layout.
use Rattle.std.specs.Prelude.{◌≡◌, ℕ, ◌^◌, ◌<◌, ℤ, Bool, true, false, List, [], ◌∷◌, ◌++◌, length}
use Rattle.std.specs.Int.{Width, w8, w16, w32, w64, w128, byte_len, to_be_bytes, from_be_bytes, cast_unsigned}

-- the widths that numbers have: 1, 2, 4 and 8 bytes
abbrev pub IsFieldWidth : Width → Type 0
IsFieldWidth w8 = Unit {0}
IsFieldWidth w16 = Unit {0}
IsFieldWidth w32 = Unit {0}
IsFieldWidth w64 = Unit {0}
IsFieldWidth w128 = ⊥

-- a number of this width: its bytes, the highest first
unfoldable pub number_bytes : Width → ℕ → List ℕ
number_bytes w n = to_be_bytes w n

-- the number whose bytes these are
unfoldable pub number_of : Width → List ℕ → ℕ
number_of w bytes = from_be_bytes w bytes

-- the numbers of this width
abbrev pub IsNumber : Width → ℕ → Type 0
IsNumber w n = n < 256 ^ byte_len w

-- a signed number: that of its two's complement
abbrev pub signed_bytes : Width → ℤ → List ℕ
signed_bytes w z = number_bytes w (cast_unsigned w z)

-- a counted text: its length as a number of this width, and its bytes
abbrev pub text_bytes : Width → List ℕ → List ℕ
text_bytes w text = number_bytes w (length text) ++ text

-- the texts whose length is a number of this width
abbrev pub IsText : Width → List ℕ → Type 0
IsText w text = IsNumber w (length text)

-- a flag: one byte
abbrev pub flag_bytes : Bool → List ℕ
flag_bytes false = 0 ∷ []
flag_bytes true = 1 ∷ []

-- so many bytes, as they stand
abbrev pub HasLength : ℕ → List ℕ → Type 0
HasLength count bytes = length bytes ≡ count
