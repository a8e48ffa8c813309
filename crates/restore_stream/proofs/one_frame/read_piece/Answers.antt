use Rattle.std.proofs.Common.{ℕ, List, sym, subst}
use Rattle.tree_frames.specs.declared.nodes.Frame.TheVariants.{Piece}
use Rattle.restore_stream.specs.Reading.{Finds}
use Rattle.restore_stream.specs.OneFrame.{piece_frame_layout}
use Rattle.restore_stream.proofs.ReadingLaws.{reads_again}
use Rattle.restore_stream.proofs.OneFrameLaws.{piece_frame_came, length_refuses, bytes_refuse}
use Rattle.restore_stream.proofs.one_frame.read_piece.Goals as goal

pub returns-in_err-count-clause-read : goal.returns-in_err-count-clause-read
returns-in_err-count-clause-read g c =
    reads_again piece_frame_layout 0 _ _ (λ frame. frame) _ _ c.from_residual.ensures.1 (length_refuses c.in_err-count.ensures.read)

pub returns-in-Ok-clause-read : goal.returns-in-Ok-clause-read
returns-in-Ok-clause-read g c =
    subst (λ (bytes : List ℕ). Finds piece_frame_layout (g.S.Faults.left c.args.source.now) (Piece bytes) (g.S.Faults.left c.read_bytes.new.source))
    (sym c.from_vec.ensures) (piece_frame_came c.in_ok-count.ensures.read c.in-Ok.ensures.read)

pub returns-in-Err-clause-read : goal.returns-in-Err-clause-read
returns-in-Err-clause-read g c = bytes_refuse c.in_ok-count.ensures.read c.in-Err.ensures.read
