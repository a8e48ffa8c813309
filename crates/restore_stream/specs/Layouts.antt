-- The bytes of frames and of streams. Numbers are big-endian.
--     frame_bytes      a Deleted is 58, path t16; an Entry is 45, kind u8, path t16, the attributes, and by kind a group and a size, or a
--         target; a Piece is 44, its length u32, its bytes; the End is 5A, the number of paths u32
--     stream_bytes      RST2, and the frames of a tree
use Rattle.std.specs.Prelude.{ℕ, ◌+◌, ◌<◌, ◌≤◌, List, [], ◌∷◌, ◌++◌, length}
use Rattle.std.specs.Int.{w8, w16, w32, w64}
use Rattle.std.specs.List.{flat_map}
use Rattle.wire_bytes.specs.Layout.{number_bytes, signed_bytes, text_bytes}
use Rattle.attr_records.specs.Attributes.{Attributes}
use Rattle.attr_records.specs.Items.{Tree}
use Rattle.tree_frames.specs.declared.nodes.Node.{Node}
use Rattle.tree_frames.specs.declared.nodes.Node.TheVariants.{File, Dir, Link}
use Rattle.tree_frames.specs.declared.nodes.Frame.{Frame}
use Rattle.tree_frames.specs.declared.nodes.Frame.TheVariants.{Deleted, Entry, Piece, End}
use Rattle.tree_frames.specs.Frames.{frames}

-- mode, uid, gid, mtime, nanos
unfoldable pub attr_bytes : Attributes → List ℕ
attr_bytes attr =
    number_bytes w32 attr.mode ++ (number_bytes w32 attr.uid ++
    (number_bytes w32 attr.gid ++ (signed_bytes w64 attr.mtime ++ number_bytes w32 attr.nanos)))

-- 1 File, 2 Dir, 3 Link
abbrev pub kind_of : Node → ℕ
kind_of (File file) = 1
kind_of (Dir dir) = 2
kind_of (Link link) = 3

-- what stands behind the path
abbrev pub node_bytes : Node → List ℕ
node_bytes (File file) = attr_bytes file.attr ++ (number_bytes w32 file.group ++ number_bytes w64 file.size)
node_bytes (Dir dir) = attr_bytes dir.attr
node_bytes (Link link) = attr_bytes link.attr ++ text_bytes w16 link.target

-- how many bytes stand behind the attributes
abbrev pub tail_length : Node → ℕ
tail_length (File file) = 12
tail_length (Dir dir) = 0
tail_length (Link link) = 2 + length link.target

unfoldable pub entry_bytes : List ℕ × Node → List ℕ
entry_bytes entry = number_bytes w8 (kind_of entry.1) ++ (text_bytes w16 entry.0 ++ node_bytes entry.1)

-- a frame begins with X, E, D or Z
abbrev pub frame_bytes : Frame → List ℕ
frame_bytes (Deleted path) = number_bytes w8 88 ++ text_bytes w16 path
frame_bytes (Entry path node) = number_bytes w8 69 ++ entry_bytes (path, node)
frame_bytes (Piece bytes) = number_bytes w8 68 ++ text_bytes w32 bytes
frame_bytes (End count) = number_bytes w8 90 ++ number_bytes w32 count

-- a piece has 1 to 65,536 bytes
abbrev pub IsFrame : Frame → Type 0
IsFrame (Deleted path) = Unit {0}
IsFrame (Entry path node) = Unit {0}
IsFrame (Piece bytes) = (0 < length bytes) × (length bytes ≤ 65536)
IsFrame (End count) = Unit {0}

-- RST2
abbrev pub magic : List ℕ
magic = 82 ∷ 83 ∷ 84 ∷ 50 ∷ []

-- the bytes of frames, one behind the other
abbrev pub frames_bytes : List Frame → List ℕ
frames_bytes list = flat_map frame_bytes list

unfoldable pub stream_bytes : Tree → List ℕ
stream_bytes tree = magic ++ frames_bytes (frames tree)
