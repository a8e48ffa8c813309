use Rattle.std.proofs.Common.{refl}
use Rattle.restore_stream.specs.Streams.{u32_field}
use Rattle.restore_stream.specs.OneFrame.{IsPieceLength}
use Rattle.restore_stream.proofs.ReadingLaws.{reads_again, limited_refuses, misfit_refuses, limited_finds}
use Rattle.restore_stream.proofs.one_frame.read_piece_len.Goals as goal

pub returns-in_err-count-clause-read : goal.returns-in_err-count-clause-read
returns-in_err-count-clause-read g c =
    reads_again (u32_field IsPieceLength) 0 _ _ (λ count. count) _ _ c.from_residual.ensures.1 (limited_refuses _ _ _ _ c.in_err-count.ensures.read)

pub returns-then-not-is_piece_len-clause-read : goal.returns-then-not-is_piece_len-clause-read
returns-then-not-is_piece_len-clause-read g c = misfit_refuses _ _ _ IsPieceLength c.in_ok-count.ensures.read (λ h.
    absurd (let e = c.if-not-is_piece_len.ensures.1 h in cc))

pub returns-clause-read : goal.returns-clause-read
returns-clause-read g c = limited_finds _ _ _ IsPieceLength c.in_ok-count.ensures.read (c.if-not-is_piece_len.ensures.0 refl)
