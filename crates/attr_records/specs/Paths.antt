-- Paths as lists of bytes: their order, their components, the directory that a path lies in.
use Rattle.std.specs.Prelude.{ℕ, ◌+◌, ◌==◌, Bool, true, false, ◌&&◌, List, [], ◌∷◌, Option, Some, None, if◌then◌else◌}
use Rattle.std.specs.declared.cmp.Ordering.{Ordering}
use Rattle.std.specs.Ordering.{nat_cmp, on}
use Rattle.std.specs.Cmp.Lexicographic.{slice_cmp}

-- a slash comes before every other byte
abbrev pub rank : ℕ → ℕ
rank byte = if byte == 47 then 0 else byte + 1

abbrev pub byte_cmp : ℕ → ℕ → Ordering
byte_cmp = on rank nat_cmp

-- the order of paths: by bytes, with the slash before every other byte
abbrev pub path_cmp : List ℕ → List ℕ → Ordering
path_cmp = slice_cmp byte_cmp

-- lists of components, in the order of their bytes
abbrev pub components_cmp : List (List ℕ) → List (List ℕ) → Ordering
components_cmp = slice_cmp (slice_cmp nat_cmp)

-- a byte before a path: it goes into the first component, or as a slash begins a new one
abbrev pub joined : ℕ → Bool → List (List ℕ) → List (List ℕ)
joined byte true others = [] ∷ others
joined byte false [] = (byte ∷ []) ∷ []
joined byte false (first ∷ others) = (byte ∷ first) ∷ others

-- what the slashes of a path part
abbrev pub components : List ℕ → List (List ℕ)
components [] = [] ∷ []
components (byte ∷ path) = joined byte (byte == 47) (components path)

-- the directory of a path that begins with a byte, from that of the rest
abbrev pub under : ℕ → Option (List ℕ) → Option (List ℕ)
under byte None = if byte == 47 then Some [] else None
under byte (Some directory) = Some (byte ∷ directory)

-- what stands before the last slash, None where there is none
abbrev pub parent : List ℕ → Option (List ℕ)
parent [] = None
parent (byte ∷ path) = under byte (parent path)

-- the path is the directory, or lies below it
abbrev pub is_within : List ℕ → List ℕ → Bool
is_within [] [] = true
is_within [] (byte ∷ path) = byte == 47
is_within (a ∷ directory) [] = false
is_within (a ∷ directory) (byte ∷ path) = (a == byte) && is_within directory path
