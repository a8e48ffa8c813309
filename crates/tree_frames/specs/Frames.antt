-- What a restore gives of a tree.
--     node_of      a node with the size of a file in the place of its bytes
--     pieces      the bytes of a file in pieces of 65,536 bytes, the last of which has the rest
--     frames      a tree frame by frame: each path in order, behind a file its pieces, last the end
--     frames_since base tree      with a base, what leads from it to the tree: the topmost paths that were lost, then what changed
use Rattle.std.specs.Prelude.{ℕ, zero, suc, Bool, true, false, Option, None, Some, List, [], ◌∷◌, ◌++◌, map, length, take, drop}
use Rattle.std.specs.List.{flat_map}
use Rattle.attr_records.specs.declared.nodes.Item.{Item}
use Rattle.attr_records.specs.declared.nodes.Item.TheVariants as I
use Rattle.attr_records.specs.Items.{Tree, is_dir}
use Rattle.change_laws.specs.Changes.{topmost, lost_rows, changed_rows}
use Rattle.change_laws.specs.SameItems.{is_same_item}
use Rattle.tree_frames.specs.declared.nodes.Node.{Node}
use Rattle.tree_frames.specs.declared.nodes.Node.TheVariants as N
use Rattle.tree_frames.specs.declared.nodes.Frame.{Frame}
use Rattle.tree_frames.specs.declared.nodes.Frame.TheVariants.{Deleted, Entry, Piece, End}

abbrev pub node_of : Item → Node
node_of (I.File file) = N.File (record { attr = file.attr; group = file.group; size = length file.bytes })
node_of (I.Dir dir) = N.Dir dir
node_of (I.Link link) = N.Link link

-- the bytes of a file, none of another node
abbrev pub bytes_of : Item → List ℕ
bytes_of (I.File file) = file.bytes
bytes_of (I.Dir dir) = []
bytes_of (I.Link link) = []

-- at most so many pieces, each of 65,536 bytes but the last, which has the rest
unfoldable pub pieces_of : ℕ → List ℕ → List (List ℕ)
pieces_of zero bytes = []
pieces_of (suc n) [] = []
pieces_of (suc n) (byte ∷ bytes) = take 65536 (byte ∷ bytes) ∷ pieces_of n (drop 65536 (byte ∷ bytes))

-- all pieces of these bytes
abbrev pub pieces : List ℕ → List (List ℕ)
pieces bytes = pieces_of (length bytes) bytes

-- the entry of a path, and behind it the pieces of a file
abbrev pub row_frames : List ℕ × Item → List Frame
row_frames row = Entry row.0 (node_of row.1) ∷ map Piece (pieces (bytes_of row.1))

unfoldable pub frames : Tree → List Frame
frames tree = flat_map row_frames tree ++ End (length tree) ∷ []

-- what is left to be given: the rest of a file, the paths behind it, and the end, unless that was given
unfoldable pub frames_left : (rest : List ℕ) → Tree → (count : ℕ) → (ended : Bool) → List Frame
frames_left rest tree count true = []
frames_left rest tree count false = map Piece (pieces rest) ++ (flat_map row_frames tree ++ End count ∷ [])

-- ---- since a base

-- the topmost paths that the base has and the tree lost, with what stood there
abbrev pub removals_of : Option Tree → Tree → Tree
removals_of None tree = []
removals_of (Some base) tree = topmost (lost_rows is_dir tree base)

-- the paths where the tree has what the base has not, with what stands there
abbrev pub entries_of : Option Tree → Tree → Tree
entries_of None tree = tree
entries_of (Some base) tree = changed_rows is_same_item tree base

abbrev pub removal_frames : Tree → List Frame
removal_frames rows = map (λ row. Deleted row.0) rows

abbrev pub frames_since : Option Tree → Tree → List Frame
frames_since base tree = removal_frames (removals_of base tree) ++ frames (entries_of base tree)
