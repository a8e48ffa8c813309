-- What a folder lists, by whole paths.
use Rattle.std.specs.Prelude.{◌≡◌, ℕ, List, Option, Some, None, map, Bool, true, false, nat_lt}
use Rattle.attr_records.specs.declared.nodes.Item.{Item}
use Rattle.attr_records.specs.Items.{Tree}
use Rattle.folder_trait.specs.Folders.{found_of, path_in}
use Rattle.folder_trait.specs.declared.found.Found.{Found}
use Rattle.folder_trait.specs.declared.found.FoundFile.{FoundFile}
use Rattle.folder_trait.specs.declared.found.FoundNode.{FoundNode}
use Rattle.folder_trait.specs.declared.found.FoundNode.TheVariants as N
use Rattle.folder_laws.specs.Walks.{children}
use Rattle.folder_walk.specs.declared.rows.Row.{Row}

-- a row of a tree as a folder lists it
abbrev pub row_found : List ℕ × Item → Row
row_found row = record { path = row.0; node = found_of row.1 }

-- the row of a name in a directory
abbrev pub row_in : Option (List ℕ) → Found → Row
row_in directory found = record { path = path_in directory found.name; node = found.node }

-- what lies in a directory of a tree, as a folder lists it
abbrev pub rows_found : Tree → Option (List ℕ) → List Row
rows_found tree directory = map row_found (children tree directory)

abbrev pub is_dir_node : FoundNode → Bool
is_dir_node (N.File file) = false
is_dir_node (N.Dir dir) = true
is_dir_node (N.Link link) = false

-- a file of more than 67,108,864 bytes
abbrev pub is_large_node : FoundNode → Bool
is_large_node (N.File file) = nat_lt 67108864 file.size
is_large_node (N.Dir dir) = false
is_large_node (N.Link link) = false

-- a large file, if it is one
abbrev pub IsLargeFile : FoundNode → Option FoundFile → Type 0
IsLargeFile node None = is_large_node node ≡ false
IsLargeFile node (Some file) = (node ≡ N.File file) × (is_large_node node ≡ true)
