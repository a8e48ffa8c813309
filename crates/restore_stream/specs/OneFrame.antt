-- A frame by itself, whatever stands before it.
--     IsFrameInRange      its path keeps the rules of paths, and its numbers and texts are in their ranges
--     IsFrameOf      the frame whose bytes these are, or that there is none
--     frame_layout      its first byte, and what stands behind it
use Rattle.std.specs.Prelude.{⊤, ◌≡◌, ℕ, ◌<◌, ◌≤◌, ◌==◌, Bool, true, ◌||◌, List, length, Option, Some, None}
use Rattle.std.specs.Int.{w32, w64}
use Rattle.std.proofs.Common.{ap}
use Rattle.wire_bytes.specs.Layout.{IsNumber}
use Rattle.attr_records.specs.PathRules.{broken_path_rule}
use Rattle.attr_records.specs.Names.{is_link_target}
use Rattle.tree_frames.specs.declared.nodes.Node.{Node}
use Rattle.tree_frames.specs.declared.nodes.Node.TheVariants.{File, Dir, Link}
use Rattle.tree_frames.specs.declared.nodes.Frame.{Frame}
use Rattle.tree_frames.specs.declared.nodes.Frame.TheVariants.{Deleted, Entry, Piece, End}
use Rattle.restore_stream.specs.Layouts.{frame_bytes}
use Rattle.restore_stream.specs.Trees.{IsAttr}
use Rattle.restore_stream.specs.Cuts.{Layout, chosen, seen_as}
use Rattle.restore_stream.specs.Streams.{u8_field, u32_field, text_field16, bytes_field_of, then_, inside, entry_of}

abbrev pub IsPath : List ℕ → Type 0
IsPath path = broken_path_rule path ≡ None

abbrev pub IsNodeInRange : Node → Type 0
IsNodeInRange (File file) = IsAttr file.attr × IsNumber w32 file.group × IsNumber w64 file.size
IsNodeInRange (Dir dir) = IsAttr dir.attr
IsNodeInRange (Link link) = IsAttr link.attr × (is_link_target link.target ≡ true)

-- a piece has 1 to 65,536 bytes
abbrev pub IsPieceLength : ℕ → Type 0
IsPieceLength count = (1 ≤ count) × (count ≤ 65536)

abbrev pub IsFrameInRange : Frame → Type 0
IsFrameInRange (Deleted path) = IsPath path
IsFrameInRange (Entry path node) = IsPath path × IsNodeInRange node
IsFrameInRange (Piece bytes) = IsPieceLength (length bytes)
IsFrameInRange (End count) = IsNumber w32 count

-- These are the bytes of the frame, and of no other one. Without a frame, they are those of none.
abbrev pub IsFrameOf : List ℕ → Option Frame → Type 0
IsFrameOf bytes None = (frame : Frame) → IsFrameInRange frame → bytes ≡ frame_bytes frame → ⊥
IsFrameOf bytes (Some frame) =
    IsFrameInRange frame × (bytes ≡ frame_bytes frame)
    × ((other : Frame) → IsFrameInRange other → bytes ≡ frame_bytes other → other ≡ frame)

-- ---- its layout

abbrev pub tag_of : Frame → ℕ
tag_of (Deleted path) = 88
tag_of (Entry path node) = 69
tag_of (Piece bytes) = 68
tag_of (End count) = 90

abbrev pub is_frame_tag : ℕ → Bool
is_frame_tag tag = tag == 88 || (tag == 69 || (tag == 68 || tag == 90))

abbrev pub IsFrameTag : ℕ → Type 0
IsFrameTag tag = is_frame_tag tag ≡ true

abbrev pub deleted_part : Frame → Option (List ℕ)
deleted_part (Deleted path) = Some path
deleted_part (Entry path node) = None
deleted_part (Piece bytes) = None
deleted_part (End count) = None

abbrev pub entry_part : Frame → Option (List ℕ × Node)
entry_part (Deleted path) = None
entry_part (Entry path node) = Some (path, node)
entry_part (Piece bytes) = None
entry_part (End count) = None

abbrev pub piece_part : Frame → Option (ℕ × List ℕ)
piece_part (Deleted path) = None
piece_part (Entry path node) = None
piece_part (Piece bytes) = Some (length bytes, bytes)
piece_part (End count) = None

abbrev pub end_part : Frame → Option ℕ
end_part (Deleted path) = None
end_part (Entry path node) = None
end_part (Piece bytes) = None
end_part (End count) = Some count

abbrev pub entry_made : List ℕ × Node → Frame
entry_made entry = Entry entry.0 entry.1

abbrev pub piece_made : ℕ × List ℕ → Frame
piece_made piece = Piece piece.1

pub deleted_is : (frame : Frame) (path : List ℕ) → deleted_part frame ≡ Some path → frame ≡ Deleted path
deleted_is (Deleted other) path e = ap Deleted (inside _ _ e)
deleted_is (Entry other node) path e = cc
deleted_is (Piece bytes) path e = cc
deleted_is (End count) path e = cc

pub entry_is : (frame : Frame) (entry : List ℕ × Node) → entry_part frame ≡ Some entry → frame ≡ entry_made entry
entry_is (Deleted path) entry e = cc
entry_is (Entry path node) entry e = ap entry_made (inside _ _ e)
entry_is (Piece bytes) entry e = cc
entry_is (End count) entry e = cc

pub piece_is : (frame : Frame) (piece : ℕ × List ℕ) → piece_part frame ≡ Some piece → frame ≡ piece_made piece
piece_is (Deleted path) piece e = cc
piece_is (Entry path node) piece e = cc
piece_is (Piece bytes) piece e = ap piece_made (inside _ _ e)
piece_is (End count) piece e = cc

pub end_is : (frame : Frame) (count : ℕ) → end_part frame ≡ Some count → frame ≡ End count
end_is (Deleted path) count e = cc
end_is (Entry path node) count e = cc
end_is (Piece bytes) count e = cc
end_is (End other) count e = ap End (inside _ _ e)

unfoldable pub deleted_layout : Layout Frame
deleted_layout = seen_as (text_field16 IsPath) deleted_part Deleted deleted_is

unfoldable pub entry_frame_layout : Layout Frame
entry_frame_layout = seen_as (entry_of IsPath) entry_part entry_made entry_is

unfoldable pub piece_frame_layout : Layout Frame
piece_frame_layout = seen_as (then_ (u32_field IsPieceLength) (λ count. bytes_field_of count (λ _. ⊤))) piece_part piece_made piece_is

unfoldable pub end_frame_layout : Layout Frame
end_frame_layout = seen_as (u32_field (λ _. ⊤)) end_part End end_is

-- what stands behind the first byte
unfoldable pub behind_tag : ℕ → Layout Frame
behind_tag tag =
    chosen (tag == 88) deleted_layout (chosen (tag == 69) entry_frame_layout (chosen (tag == 68) piece_frame_layout end_frame_layout))

unfoldable pub frame_layout : Layout Frame
frame_layout =
    seen_as (then_ (u8_field IsFrameTag) behind_tag) (λ frame. Some (tag_of frame, frame)) (λ p. p.1)
    (λ frame p e. ap (λ q. q.1) (inside _ _ e))
