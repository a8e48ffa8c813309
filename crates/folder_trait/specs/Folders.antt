-- What a folder says of its tree, and what its calls make of it.
--     IsListing, IsReading, IsPieceRead, IsEmptiness      what is told of a directory, a file, a piece of a file, all
--     IsFree      nothing is at a path
--     IsLone      a file is at a path that is in no group of hard links
--     with_made, with_appended, with_linked, with_finished      what a call that was carried out leaves, where it is told
use Rattle.std.specs.Prelude.{◌≡◌, ℕ, ◌+◌, Bool, List, [], ◌∷◌, ◌++◌, length, take, drop, map, pos, Option, Some, None, is_some, true, false, bytes_eq}
use Rattle.std.specs.List.{filter}
use Rattle.std.specs.Option.{option_eq, option_map}
use Rattle.attr_records.specs.declared.nodes.Item.{Item}
use Rattle.attr_records.specs.declared.nodes.Item.TheVariants as I
use Rattle.attr_records.specs.declared.nodes.Dir.{Dir}
use Rattle.attr_records.specs.declared.nodes.File.{File}
use Rattle.attr_records.specs.Items.{Tree}
use Rattle.attr_records.specs.Paths.{parent}
use Rattle.attr_records.specs.Trees.{node_at, with_node}
use Rattle.folder_trait.specs.declared.found.FoundNode.{FoundNode}
use Rattle.folder_trait.specs.declared.found.FoundNode.TheVariants as F
use Rattle.folder_trait.specs.declared.found.Found.{Found}

-- ---- what is told

-- a node with the size of a file in the place of its bytes
abbrev pub found_of : Item → FoundNode
found_of (I.File file) = F.File (record { attr = file.attr; group = file.group; size = length file.bytes })
found_of (I.Dir dir) = F.Dir dir
found_of (I.Link link) = F.Link (record { attr = link.attr; target = link.target })

-- a path lies directly in a directory, or in the root
abbrev pub is_child : Option (List ℕ) → List ℕ → Bool
is_child directory path = option_eq bytes_eq (parent path) directory

-- the name of a path that lies in this directory
abbrev pub name_in : Option (List ℕ) → List ℕ → List ℕ
name_in None path = path
name_in (Some directory) path = drop (length directory + 1) path

-- the path of a name in a directory
abbrev pub path_in : Option (List ℕ) → List ℕ → List ℕ
path_in None name = name
path_in (Some directory) name = directory ++ 47 ∷ name

abbrev pub entry_of : Option (List ℕ) → List ℕ × Item → Found
entry_of directory row = record { name = name_in directory row.0; node = found_of row.1 }

-- the names in a directory with their nodes, in the order of the paths, which is here that of the names
abbrev pub listed : Tree → Option (List ℕ) → List Found
listed tree directory = map (entry_of directory) (filter (λ row. is_child directory row.0) tree)

-- a listing of the directory
pub record IsListing (tree : Tree) (directory : Option (List ℕ)) (list : List Found) : Type 0 where
  pub all : list ≡ listed tree directory

-- the bytes of a file, where there is one
abbrev pub file_bytes : Option Item → Option (List ℕ)
file_bytes None = None
file_bytes (Some (I.File file)) = Some file.bytes
file_bytes (Some (I.Dir dir)) = None
file_bytes (Some (I.Link link)) = None

-- the bytes of the file at a path; if there is one, it hasn't gone
pub record IsReading (tree : Tree) (path : List ℕ) (bytes : Option (List ℕ)) : Type 0 where
  pub found : (file : File) → node_at tree path ≡ Some (I.File file) → bytes ≡ Some file.bytes

-- so many bytes of the file at a path from a place, or all that are left; if there is one, it hasn't gone
pub record IsPieceRead (tree : Tree) (path : List ℕ) (from room : ℕ) (bytes : Option (List ℕ)) : Type 0 where
  pub found : (file : File) → node_at tree path ≡ Some (I.File file) → bytes ≡ Some (take room (drop from file.bytes))

abbrev pub is_bare : Tree → Bool
is_bare [] = true
is_bare (row ∷ rows) = false

-- nothing lies in it, or something
abbrev pub IsEmptiness : Tree → Bool → Type 0
IsEmptiness tree empty = empty ≡ is_bare tree

-- nothing is at the path
abbrev pub IsFree : Tree → List ℕ → Type 0
IsFree tree path = is_some (node_at tree path) ≡ false

-- a file is at the path that is in no group of hard links
pub record IsLone (tree : Tree) (path : List ℕ) : Type 0 where
  pub file : File
  pub at : node_at tree path ≡ Some (I.File file)
  pub group : file.group ≡ 0

-- ---- what is made

-- a directory without its attributes: only its owner may do anything there
abbrev pub unfinished : Item
unfinished = I.Dir (record { attr = record { mode = 448; uid = 0; gid = 0; mtime = pos 0; nanos = 0 } })

-- an entry as it is made
abbrev pub begun : Item → Item
begun (I.File file) = I.File file
begun (I.Dir dir) = unfinished
begun (I.Link link) = I.Link link

-- a directory in which something is made loses its attributes
abbrev pub touched : Tree → Option (List ℕ) → Tree
touched tree None = tree
touched tree (Some directory) = with_node tree directory unfinished

abbrev pub made : Tree → List ℕ → Item → Tree
made tree path item = with_node (touched tree (parent path)) path (begun item)

abbrev pub with_made : Option Tree → List ℕ → Item → Option Tree
with_made None path item = None
with_made (Some tree) path item = Some (made tree path item)

-- a file with more bytes at its end
abbrev pub longer : File → List ℕ → File
longer file more = record { attr = file.attr; group = file.group; bytes = file.bytes ++ more }

-- more bytes at the end of a file, where there is one
abbrev pub appended : Tree → List ℕ → List ℕ → Option Item → Tree
appended tree path more None = tree
appended tree path more (Some (I.File file)) = with_node tree path (I.File (longer file more))
appended tree path more (Some (I.Dir dir)) = tree
appended tree path more (Some (I.Link link)) = tree

abbrev pub with_appended : Option Tree → List ℕ → List ℕ → Option Tree
with_appended None path more = None
with_appended (Some tree) path more = Some (appended tree path more (node_at tree path))

-- the same item at a further path, where there is one
abbrev pub linked : Tree → List ℕ → Option Item → Tree
linked tree path None = tree
linked tree path (Some item) = made tree path item

abbrev pub with_linked : Option Tree → List ℕ → List ℕ → Option Tree
with_linked None path earlier = None
with_linked (Some tree) path earlier = Some (linked tree path (node_at tree earlier))

abbrev pub with_finished : Option Tree → List ℕ → Dir → Option Tree
with_finished None path dir = None
with_finished (Some tree) path dir = Some (with_node tree path (I.Dir dir))
