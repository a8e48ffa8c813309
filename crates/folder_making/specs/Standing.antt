-- The rows that were made stand in a folder, and the directories among them that aren't finished.
--     shown      what is at a path: of a directory that isn't finished, nothing but that it is there
--     Stands      the folder tells just these rows, and each directory in which a further path lies isn't finished
--     IsSame, IsEarlier      a file that is there already
use Rattle.std.specs.Prelude.{◌≡◌, ℕ, Bool, true, false, cond, List, [], ◌∷◌, ◌++◌, Option, Some, is_some, slice_get, bytes_eq}
use Rattle.std.specs.List.{list_any}
use Rattle.attr_records.specs.declared.nodes.Item.{Item}
use Rattle.attr_records.specs.declared.nodes.Item.TheVariants as I
use Rattle.attr_records.specs.declared.nodes.File.{File}
use Rattle.attr_records.specs.Items.{Tree, is_dir}
use Rattle.attr_records.specs.Paths.{path_cmp, is_within}
use Rattle.attr_records.specs.Trees.{node_at, is_dir_at, IsTree}
use Rattle.ordered_lists.specs.Order.{IsInOrder}
use Rattle.folder_trait.specs.Folders.{unfinished}
use Rattle.folder_making.specs.declared.dirs.OpenDir.{OpenDir}
use Rattle.folder_making.specs.declared.noted.Noted.{Noted}

-- a directory of the stack stands at this path
abbrev pub is_unfinished : List OpenDir → List ℕ → Bool
is_unfinished dirs path = list_any (λ dir. bytes_eq dir.path path) dirs

-- what the folder shows at a path
abbrev pub shown : List OpenDir → Tree → List ℕ → Option Item
shown dirs rows path = cond (is_unfinished dirs path) (Some unfinished) (node_at rows path)

-- the rows have each directory of the stack, and no two of the stack are one
abbrev pub AreDirs : Tree → List OpenDir → Type 0
AreDirs rows [] = Unit {0}
AreDirs rows (dir ∷ dirs) = (node_at rows dir.path ≡ Some (I.Dir dir.dir)) × (is_unfinished dirs dir.path ≡ false) × AreDirs rows dirs

-- a file with these attributes, in this group, stands at the path
pub record IsNoted (rows : Tree) (noted : Noted) : Type 0 where
  pub file : File
  pub stands : node_at rows noted.path ≡ Some (I.File file)
  pub attr : file.attr ≡ noted.node.attr
  pub group : file.group ≡ noted.node.group

abbrev pub AreNoted : Tree → List Noted → Type 0
AreNoted rows noted = (index : ℕ) (one : Noted) → slice_get noted index ≡ Some one → IsNoted rows one

-- these rows of a tree were made; more of it is still to come
pub record Stands (rows more : Tree) (told : Option Tree) (dirs : List OpenDir) (noted : List Noted) : Type 0 where
  pub is_tree : IsTree is_dir (rows ++ more)
  pub all : Tree
  pub told_is : told ≡ Some all
  pub in_order : IsInOrder path_cmp all
  pub shows : (path : List ℕ) → node_at all path ≡ shown dirs rows path
  pub dirs_are : AreDirs rows dirs
  pub covers : (directory path : List ℕ) → is_dir_at is_dir rows directory ≡ true → is_some (node_at more path) ≡ true
      → is_within directory path ≡ true → is_unfinished dirs directory ≡ true
  pub noted_are : AreNoted rows noted

-- the attributes and the group that were noted are this file's, and its bytes are those that stand at the path
pub record IsSame (all : Tree) (noted : Noted) (file : File) : Type 0 where
  pub attr : noted.node.attr ≡ file.attr
  pub group : noted.node.group ≡ file.group
  pub bytes : (there : File) → node_at all noted.path ≡ Some (I.File there) → file.bytes ≡ there.bytes

abbrev pub IsEarlier : Tree → List Noted → ℕ → File → Type 0
IsEarlier all noted index file = (one : Noted) → slice_get noted index ≡ Some one → IsSame all one file
