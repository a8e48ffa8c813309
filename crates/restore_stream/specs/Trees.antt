-- Trees with the bytes of their files, path by path.
--     IsInRange      a path that keeps the rules of paths, and an item whose numbers and texts are in their ranges
--     IsMadeTree      a tree of at most 1,048,576 of these
--     may_follow      whether a path may come next
use Rattle.std.specs.Prelude.{◌≡◌, ℕ, ◌≤◌, nat_lt, Bool, true, ◌&&◌, List, length, None, FitsSigned}
use Rattle.std.specs.Int.{w32, w64}
use Rattle.std.specs.List.{AllByRecursion}
use Rattle.wire_bytes.specs.Layout.{IsNumber}
use Rattle.attr_records.specs.Attributes.{Attributes}
use Rattle.attr_records.specs.declared.nodes.Item.{Item}
use Rattle.attr_records.specs.declared.nodes.Item.TheVariants.{File, Dir, Link}
use Rattle.attr_records.specs.PathRules.{broken_path_rule}
use Rattle.attr_records.specs.Names.{is_link_target}
use Rattle.attr_records.specs.Items.{Tree, is_dir}
use Rattle.attr_records.specs.Paths.{path_cmp, parent}
use Rattle.attr_records.specs.Trees.{IsTree, is_parent_in}
use Rattle.ordered_lists.specs.Order.{is_after}

pub record IsAttr (attr : Attributes) : Type 0 where
  pub mode : attr.mode ≤ 4095
  pub uid : IsNumber w32 attr.uid
  pub gid : IsNumber w32 attr.gid
  pub mtime : FitsSigned w64 attr.mtime
  pub nanos : attr.nanos ≤ 999999999

abbrev pub IsItem : Item → Type 0
IsItem (File file) = IsAttr file.attr × IsNumber w32 file.group × IsNumber w64 (length file.bytes)
IsItem (Dir dir) = IsAttr dir.attr
IsItem (Link link) = IsAttr link.attr × (is_link_target link.target ≡ true)

pub record IsInRange (row : List ℕ × Item) : Type 0 where
  pub path : broken_path_rule row.0 ≡ None
  pub item : IsItem row.1

pub record IsMadeTree (tree : Tree) : Type 0 where
  pub is_tree : IsTree is_dir tree
  pub few : length tree ≤ 1048576
  pub each : AllByRecursion IsInRange tree

-- behind the paths of a tree a path may come that is after them, whose parent is a Dir among them, if there is room for it
unfoldable pub may_follow : Tree → List ℕ → Bool
may_follow tree path = is_after path_cmp tree path && (is_parent_in is_dir tree (parent path) && nat_lt (length tree) 1048576)
