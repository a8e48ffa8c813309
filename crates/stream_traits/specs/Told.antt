-- Bytes that are told: what is left to be read at one end, and what was written at the other.
use Rattle.std.specs.Prelude.{◌≡◌, ℕ, ◌<◌, ◌≤◌, List, [], ◌++◌, length, take, Option, None, Some}

-- these bytes, and then what is told
abbrev pub before : List ℕ → Option (List ℕ) → Option (List ℕ)
before bytes None = None
before bytes (Some rest) = Some (bytes ++ rest)

-- what is told, and then these bytes
abbrev pub behind : Option (List ℕ) → List ℕ → Option (List ℕ)
behind None bytes = None
behind (Some written) bytes = Some (written ++ bytes)

-- where it is told, nothing is left
abbrev pub IsEnd : Option (List ℕ) → Type 0
IsEnd None = Unit {0}
IsEnd (Some rest) = rest ≡ []

-- a front of the bytes went out
pub record WroteFront (old new : Option (List ℕ)) (bytes : List ℕ) : Type 0 where
  pub count : ℕ
  pub fits : count ≤ length bytes
  pub wrote : new ≡ behind old (take count bytes)

-- at most so many bytes were taken
pub record TookFront (old new : Option (List ℕ)) (most : ℕ) : Type 0 where
  pub bytes : List ℕ
  pub fits : length bytes ≤ most
  pub took : old ≡ before bytes new

-- where they are told, fewer bytes are left
abbrev pub IsShort : Option (List ℕ) → ℕ → Type 0
IsShort None count = Unit {0}
IsShort (Some rest) count = length rest < count

-- some bytes were taken, at most so many, and put behind those that were there
pub record AddsPiece (had has : List ℕ) (old new : Option (List ℕ)) (most : ℕ) : Type 0 where
  pub piece : List ℕ
  pub some : 0 < length piece
  pub fits : length piece ≤ most
  pub has_is : has ≡ had ++ piece
  pub took : old ≡ before piece new
