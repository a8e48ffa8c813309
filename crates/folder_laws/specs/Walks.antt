-- A walk over a folder's tree in the order of the paths.
--     children      what lies directly in a directory
--     is_open      a row whose directory was passed: it is on the walk's stack
use Rattle.std.specs.Prelude.{ℕ, Bool, true, List, ◌∷◌, Option, Some, None, is_some, bytes_eq}
use Rattle.std.specs.List.{filter}
use Rattle.std.specs.Option.{option_eq}
use Rattle.attr_records.specs.declared.nodes.Item.{Item}
use Rattle.attr_records.specs.Items.{Tree}
use Rattle.attr_records.specs.Paths.{parent}
use Rattle.attr_records.specs.Trees.{node_at}

-- a path lies directly in a directory, or in the root
abbrev pub is_child : Option (List ℕ) → List ℕ → Bool
is_child directory path = option_eq bytes_eq (parent path) directory

-- what lies directly in a directory, or in the root
abbrev pub children : Tree → Option (List ℕ) → Tree
children tree directory = filter (λ row. is_child directory row.0) tree

-- the root, or a path among these
abbrev pub is_passed : Tree → Option (List ℕ) → Bool
is_passed done None = true
is_passed done (Some directory) = is_some (node_at done directory)

-- its directory was passed
abbrev pub is_open : Tree → List ℕ × Item → Bool
is_open done row = is_passed done (parent row.0)
