use Rattle.std.proofs.Common.{sym}
use Rattle.restore_stream.specs.Streams.{u8_field}
use Rattle.restore_stream.specs.OneFrame.{IsFrameTag}
use Rattle.restore_stream.proofs.ReadingLaws.{reads_again, limited_refuses, misfit_refuses, limited_finds}
use Rattle.restore_stream.proofs.one_frame.read_frame_tag.Goals as goal

pub returns-in_err-tag-clause-read : goal.returns-in_err-tag-clause-read
returns-in_err-tag-clause-read g c =
    reads_again (u8_field IsFrameTag) 0 _ _ (λ tag. tag) _ _ c.from_residual.ensures.1 (limited_refuses _ _ _ _ c.in_err-tag.ensures.read)

pub returns-then-not-is_frame_tag-clause-read : goal.returns-then-not-is_frame_tag-clause-read
returns-then-not-is_frame_tag-clause-read g c = misfit_refuses _ _ _ IsFrameTag c.in_ok-tag.ensures.read (λ h.
    absurd (let e = c.if-not-is_frame_tag.ensures in cc))

pub returns-clause-read : goal.returns-clause-read
returns-clause-read g c = limited_finds _ _ _ IsFrameTag c.in_ok-tag.ensures.read (sym c.if-not-is_frame_tag.ensures)
