-- Names of contents.
use Rattle.std.specs.Prelude.{ℕ, List, ◌∷◌, unwrap_or, replicate, slice_get}

-- the first byte, 0 where there is none, and fifteen zeros
abbrev pub first_byte_name : List ℕ → List ℕ
first_byte_name content = unwrap_or (slice_get content 0) 0 ∷ replicate 15 0
