-- What is made of frames: the rows of a tree, one after the other.
--     taken, made_from, made_of      what a frame adds, and what all frames give
--     ended      the rows, with the file whose pieces came
use Rattle.std.specs.Prelude.{ℕ, List, [], ◌∷◌, ◌++◌, Option, Some, None}
use Rattle.attr_records.specs.declared.nodes.Item.{Item}
use Rattle.attr_records.specs.declared.nodes.Item.TheVariants as I
use Rattle.attr_records.specs.Items.{Tree}
use Rattle.tree_frames.specs.declared.nodes.FileNode.{FileNode}
use Rattle.tree_frames.specs.declared.nodes.Node.{Node}
use Rattle.tree_frames.specs.declared.nodes.Node.TheVariants as N
use Rattle.tree_frames.specs.declared.nodes.Frame.{Frame}
use Rattle.tree_frames.specs.declared.nodes.Frame.TheVariants.{Deleted, Entry, Piece, End}

-- a file with the bytes of the pieces that came so far
pub record Coming : Type 0 where
  pub path : List ℕ
  pub node : FileNode
  pub bytes : List ℕ

-- the rows so far, and the file whose pieces come
pub record Made : Type 0 where
  pub rows : Tree
  pub file : Option Coming

abbrev pub file_of : Coming → List ℕ × Item
file_of coming = (coming.path, I.File (record { attr = coming.node.attr; group = coming.node.group; bytes = coming.bytes }))

abbrev pub with_file : Tree → Option Coming → Tree
with_file rows None = rows
with_file rows (Some coming) = rows ++ file_of coming ∷ []

-- the rows, with the file whose pieces came
abbrev pub ended : Made → Tree
ended made = with_file made.rows made.file

-- an entry behind these rows
abbrev pub begun_at : Tree → List ℕ → Node → Made
begun_at rows path (N.File node) = record { rows = rows; file = Some (record { path = path; node = node; bytes = [] }) }
begun_at rows path (N.Dir dir) = record { rows = rows ++ (path, I.Dir dir) ∷ []; file = None }
begun_at rows path (N.Link link) = record { rows = rows ++ (path, I.Link link) ∷ []; file = None }

-- a file with one more piece
abbrev pub with_piece : Coming → List ℕ → Coming
with_piece coming bytes = record { path = coming.path; node = coming.node; bytes = coming.bytes ++ bytes }

abbrev pub extended : Option Coming → List ℕ → Option Coming
extended None bytes = None
extended (Some coming) bytes = Some (with_piece coming bytes)

-- what one more frame makes; nothing is lost where a tree is made from nothing, so a path that was lost leaves all as it is
abbrev pub taken : Made → Frame → Made
taken made (Deleted path) = made
taken made (Entry path node) = begun_at (ended made) path node
taken made (Piece bytes) = record { rows = made.rows; file = extended made.file bytes }
taken made (End count) = record { rows = ended made; file = None }

abbrev pub made_from : Made → List Frame → Made
made_from made [] = made
made_from made (frame ∷ list) = made_from (taken made frame) list

abbrev pub nothing_made : Made
nothing_made = record { rows = []; file = None }

-- what is made of these frames
abbrev pub made_of : List Frame → Made
made_of list = made_from nothing_made list
