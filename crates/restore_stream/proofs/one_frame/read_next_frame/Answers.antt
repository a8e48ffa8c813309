use Rattle.restore_stream.specs.OneFrame.{frame_layout}
use Rattle.restore_stream.proofs.ReadingLaws.{reads_again}
use Rattle.restore_stream.proofs.OneFrameLaws.{frame_tag_refuses, behind_refuses, frame_came}
use Rattle.restore_stream.proofs.one_frame.read_next_frame.Goals as goal

pub returns-in_err-tag-clause-read : goal.returns-in_err-tag-clause-read
returns-in_err-tag-clause-read g c =
    reads_again frame_layout 0 _ _ (λ frame. frame) _ _ c.from_residual.ensures.1 (frame_tag_refuses c.in_err-tag.ensures.read)

pub returns-in-Ok-clause-read : goal.returns-in-Ok-clause-read
returns-in-Ok-clause-read g c = frame_came c.in_ok-tag.ensures.read c.in-Ok.ensures.read

pub returns-in-Err-clause-read : goal.returns-in-Err-clause-read
returns-in-Err-clause-read g c = behind_refuses c.in_ok-tag.ensures.read c.in-Err.ensures.read
