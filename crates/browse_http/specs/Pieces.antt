-- A body in pieces.
use Rattle.std.specs.Prelude.{◌≡◌, ◌⊎◌, ℕ, ◌<◌, Bool, true, false, List, [], ◌∷◌, ◌++◌, length}
use Rattle.http_bodies.specs.Reads.{piece_size}

-- a full piece before the rest; or a shorter one, the last of a body that came whole
abbrev pub IsPiece : Bool → List ℕ → List ℕ → Type 0
IsPiece true piece rest = (length piece ≡ piece_size) ⊎ ((0 < length piece) × (length piece < piece_size) × (rest ≡ []))
IsPiece false piece rest = length piece ≡ piece_size

-- The pieces of a body that came whole: full ones, and a rest if it isn't empty. Of one that didn't: the full ones of what came; what
-- is left is less than a piece, and in none.
abbrev pub IsCutUp : Bool → List (List ℕ) → List ℕ → Type 0
IsCutUp true [] body = body ≡ []
IsCutUp false [] body = length body < piece_size
IsCutUp whole (piece ∷ pieces) body =
    (rest : List ℕ) × (body ≡ piece ++ rest) × IsPiece whole piece rest × IsCutUp whole pieces rest
