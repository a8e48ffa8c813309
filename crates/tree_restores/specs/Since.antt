-- What leads from a base to a tree, path by path.
--     lost_tops base tree      the rows of the base that are told as lost
--     told_rows base tree      the rows of the tree that are told as entries
use Rattle.std.specs.Prelude.{ℕ, Bool, false, not, ◌&&◌, List, Option, None, Some, is_some}
use Rattle.std.specs.FinMap.Entries.{where_key}
use Rattle.attr_records.specs.Items.{Tree, is_dir}
use Rattle.attr_records.specs.Paths.{path_cmp, parent}
use Rattle.attr_records.specs.Trees.{node_at}
use Rattle.change_laws.specs.Changes.{lost, changed}
use Rattle.change_laws.specs.SameItems.{is_same_item}

-- the base has the path, and the tree lost it
abbrev pub is_lost_at : Tree → Tree → List ℕ → Bool
is_lost_at base tree path = is_some (lost is_dir (node_at tree path) (node_at base path))

-- the directory of a path is lost
abbrev pub is_lost_above : Tree → Tree → Option (List ℕ) → Bool
is_lost_above base tree None = false
is_lost_above base tree (Some directory) = is_lost_at base tree directory

abbrev pub is_top_at : Tree → Tree → List ℕ → Bool
is_top_at base tree path = is_lost_at base tree path && not (is_lost_above base tree (parent path))

-- the tree has at the path what the base has not
abbrev pub is_changed_at : Tree → Tree → List ℕ → Bool
is_changed_at base tree path = is_some (changed is_same_item (node_at tree path) (node_at base path))

abbrev pub lost_tops : Tree → Tree → Tree
lost_tops base tree = where_key path_cmp (is_top_at base tree) base

abbrev pub told_rows : Tree → Tree → Tree
told_rows base tree = where_key path_cmp (is_changed_at base tree) tree
