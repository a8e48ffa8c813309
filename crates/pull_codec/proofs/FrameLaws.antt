-- The bytes of a frame are those of this frame alone.
use Rattle.std.proofs.Common.{◌≡◌, ℕ, ◌<◌, ◌≤◌, List, [], ◌++◌, length, Some, refl, sym, ap, ◌∙◌, arith}
use Rattle.attr_records.specs.PathRuleLaws.{short_path}
use Rattle.attr_records.specs.NameLaws.{short_target}
use Rattle.tree_frames.specs.declared.nodes.Node.{Node}
use Rattle.tree_frames.specs.declared.nodes.Node.TheVariants as N
use Rattle.tree_frames.specs.declared.nodes.Frame.{Frame}
use Rattle.tree_frames.specs.declared.nodes.Frame.TheVariants.{Deleted, Entry, Piece, End}
use Rattle.restore_stream.specs.Layouts.{kind_of, frame_bytes}
use Rattle.restore_stream.specs.Cuts.{field, followed_by, seen_as}
use Rattle.restore_stream.specs.Streams.{limited, IsKind, node_layout, entry_of}
use Rattle.restore_stream.specs.OneFrame.{IsPath, IsNodeInRange, IsFrameInRange, IsFrameOf, deleted_layout, entry_frame_layout, piece_frame_layout, end_frame_layout, behind_tag, frame_layout}
use Rattle.restore_stream.proofs.FitLaws.{attr_fits}
use Rattle.restore_stream.proofs.OneFrameLaws.{frame_print}

-- ---- a frame in its ranges fits its layout

node-fits : (node : Node) → IsNodeInRange node → (node_layout (kind_of node)).Fits node
unfolding node_layout seen_as followed_by limited field
node-fits (N.File file) is = (attr_fits file.attr is.0, ((is.1, tt), (is.2, tt)))
node-fits (N.Dir dir) is = attr_fits dir.attr is
node-fits (N.Link link) is =
    let n : length link.target ≤ 4096 = short_target link.target is.1 in (attr_fits link.attr is.0, (omega (arith, n), is.1))

kind-fits : (node : Node) → (kind_of node < 256) × IsKind (kind_of node)
kind-fits (N.File file) = (omega arith, (omega arith, omega arith))
kind-fits (N.Dir dir) = (omega arith, (omega arith, omega arith))
kind-fits (N.Link link) = (omega arith, (omega arith, omega arith))

entry-fits : (path : List ℕ) (node : Node) → IsPath path → IsNodeInRange node → (entry_of IsPath).Fits (path, node)
unfolding entry_of seen_as followed_by limited field
entry-fits path node is node_is =
    let n : length path ≤ 4096 = short_path path is in
    (kind-fits node, ((omega (arith, n), is), node-fits node node_is))

frame-fits : (frame : Frame) → IsFrameInRange frame → frame_layout.Fits frame
unfolding frame_layout behind_tag deleted_layout entry_frame_layout piece_frame_layout end_frame_layout seen_as followed_by limited field
frame-fits (Deleted path) is =
    let n : length path ≤ 4096 = short_path path is in ((omega arith, refl), (omega (arith, n), is))
frame-fits (Entry path node) is = ((omega arith, refl), entry-fits path node is.0 is.1)
frame-fits (Piece bytes) is = ((omega arith, refl), ((omega (arith, is.1), is), (refl, tt)))
frame-fits (End count) is = ((omega arith, refl), (is, tt))

-- ---- its bytes

same-frame : (a b : Frame) → IsFrameInRange a → IsFrameInRange b → frame_bytes a ≡ frame_bytes b → a ≡ b
same-frame a b a_is b_is e =
    (frame_layout.one_way a b [] [] (frame-fits a a_is) (frame-fits b b_is)
    (ap (λ (bytes : List ℕ). bytes ++ []) (frame_print a ∙ e ∙ sym (frame_print b)))).0

pub frame-read : (frame : Frame) → IsFrameInRange frame → IsFrameOf (frame_bytes frame) (Some frame)
frame-read frame is = (is, refl, λ other range e. same-frame other frame range is (sym e))
