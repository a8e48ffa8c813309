-- The rows of a directory stand together.
--     within_rows directory rows      the directory's own row and all below it
--     children directory rows      the rows of what lies directly in a directory, or in the root
use Rattle.std.specs.Prelude.{ℕ, Bool, ◌&&◌, ◌||◌, List, Option, bytes_eq}
use Rattle.std.specs.List.{filter}
use Rattle.std.specs.Option.{option_eq}
use Rattle.std.specs.Ordering.{is_lt}
use Rattle.attr_records.specs.Paths.{path_cmp, parent, is_within}

module _ {X : Type 0} where
  -- the directory's own row, and those of all below it
  abbrev pub within_rows : List ℕ → List (List ℕ × X) → List (List ℕ × X)
  within_rows directory rows = filter (λ row. is_within directory row.0) rows

-- the path lies directly in a directory, or in the root
abbrev pub is_child : Option (List ℕ) → List ℕ → Bool
is_child directory path = option_eq bytes_eq (parent path) directory

module _ {X : Type 0} where
  -- the rows of what lies directly in a directory, or in the root
  abbrev pub children : Option (List ℕ) → List (List ℕ × X) → List (List ℕ × X)
  children directory rows = filter (λ row. is_child directory row.0) rows

-- the path comes before the directory, or, if `past` says so, lies within it too
abbrev pub comes_first : Bool → List ℕ → List ℕ → Bool
comes_first past directory path = is_lt (path_cmp path directory) || (past && is_within directory path)

-- the same of a row
abbrev pub row_first : {X : Type 0} → Bool → List ℕ → List ℕ × X → Bool
row_first past directory row = comes_first past directory row.0
