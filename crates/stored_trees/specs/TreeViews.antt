-- Reverse and view of trees with bytes, as of rows.
--     tree_reverse older newer      exactly the paths where the trees differ: the older's node, or None if it has none
--     tree_view tree entries      the tree with the entries' nodes put in and their marked paths taken out
use Rattle.std.specs.Prelude.{ℕ, ◌==◌, Bool, false, ◌&&◌, List, Option, Some, None, bytes_eq, if◌then◌else◌}
use Rattle.attr_records.specs.declared.nodes.Item.{Item}
use Rattle.attr_records.specs.declared.nodes.Item.TheVariants.{File, Dir, Link}
use Rattle.attr_records.specs.Items.{Tree}
use Rattle.attr_records.specs.Paths.{path_cmp}
use Rattle.attr_tables.specs.Records.{is_same_attr, is_same_link}
use Rattle.ordered_lists.specs.Merge.{merge}
use Rattle.stored_trees.specs.Resolved.{Entry}

-- whether two nodes are one
abbrev pub is_same_item : Item → Item → Bool
is_same_item (File a) (File b) = is_same_attr a.attr b.attr && ((a.group == b.group) && bytes_eq a.bytes b.bytes)
is_same_item (Dir a) (Dir b) = is_same_attr a.attr b.attr
is_same_item (Link a) (Link b) = is_same_link a b
is_same_item _ _ = false

abbrev pub item_difference : Option Item → Option Item → Option Entry
item_difference None None = None
item_difference None (Some newer) = Some None
item_difference (Some older) None = Some (Some older)
item_difference (Some older) (Some newer) = if is_same_item older newer then None else Some (Some older)

abbrev pub tree_reverse : Tree → Tree → List (List ℕ × Entry)
tree_reverse older newer = merge path_cmp item_difference older newer

abbrev pub item_laid : Option Entry → Option Item → Option Item
item_laid None base = base
item_laid (Some None) base = None
item_laid (Some (Some item)) base = Some item

abbrev pub tree_view : Tree → List (List ℕ × Entry) → Tree
tree_view tree entries = merge path_cmp item_laid entries tree
