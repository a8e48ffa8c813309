use Rattle.restore_stream.specs.OneFrame.{entry_frame_layout}
use Rattle.restore_stream.proofs.ReadingLaws.{reads_again}
use Rattle.restore_stream.proofs.EntryLaws.{kind_refuses, path_refuses, node_refuses}
use Rattle.restore_stream.proofs.OneFrameLaws.{entry_frame_came, entry_frame_refuses}
use Rattle.restore_stream.proofs.one_frame.read_entry.Goals as goal

pub returns-in_err-kind-clause-read : goal.returns-in_err-kind-clause-read
returns-in_err-kind-clause-read g c =
    reads_again entry_frame_layout 0 _ _ (λ frame. frame) _ _ c.from_residual.ensures.1
    (entry_frame_refuses (kind_refuses _ _ _ c.in_err-kind.ensures.read))

pub returns-in_err-path-clause-read : goal.returns-in_err-path-clause-read
returns-in_err-path-clause-read g c =
    reads_again entry_frame_layout 0 _ _ (λ frame. frame) _ _ c.from_residual-in_err-path.ensures.1
    (entry_frame_refuses (path_refuses _ _ _ c.in_ok-kind.ensures.read c.in_err-path.ensures.read))

pub returns-in-Ok-clause-read : goal.returns-in-Ok-clause-read
returns-in-Ok-clause-read g c = entry_frame_came c.in_ok-kind.ensures.read c.in_ok-path.ensures.read c.in-Ok.ensures.read

pub returns-in-Err-clause-read : goal.returns-in-Err-clause-read
returns-in-Err-clause-read g c =
    entry_frame_refuses (node_refuses _ _ _ c.in_ok-kind.ensures.read c.in_ok-path.ensures.read c.in-Err.ensures.read)
