use Rattle.restore_stream.specs.Streams.{piece_layout}
use Rattle.restore_stream.proofs.ReadingLaws.{reads_again, limited_fits}
use Rattle.restore_stream.proofs.EntryLaws.{tag_refuses, count_refuses, piece_refuses, piece_came}
use Rattle.restore_stream.proofs.entries.read_piece.Goals as goal

pub returns-in_err-read_this_u8-clause-read : goal.returns-in_err-read_this_u8-clause-read
returns-in_err-read_this_u8-clause-read g c =
    reads_again (piece_layout c.args.count) c.args.start _ _ (λ piece. piece.items) _ _ c.from_residual.ensures.1
    (tag_refuses _ _ _ c.in_err-read_this_u8.ensures.read)

pub returns-in_err-read_this_u32-clause-read : goal.returns-in_err-read_this_u32-clause-read
returns-in_err-read_this_u32-clause-read g c =
    reads_again (piece_layout c.args.count) c.args.start _ _ (λ piece. piece.items) _ _ c.from_residual-in_err-read_this_u32.ensures.1
    (count_refuses _ _ _ c.in_ok-read_this_u8.ensures.read c.in_err-read_this_u32.ensures.read)

pub returns-in-Ok-clause-read : goal.returns-in-Ok-clause-read
returns-in-Ok-clause-read g c =
    piece_came _ (limited_fits _ _ _ _ c.in_ok-read_this_u32.ensures.read).1
    c.in_ok-read_this_u8.ensures.read c.in_ok-read_this_u32.ensures.read c.in-Ok.ensures.read

pub returns-in-Err-clause-read : goal.returns-in-Err-clause-read
returns-in-Err-clause-read g c =
    piece_refuses _ _ _ (limited_fits _ _ _ _ c.in_ok-read_this_u32.ensures.read).1
    c.in_ok-read_this_u8.ensures.read c.in_ok-read_this_u32.ensures.read
    c.in-Err.ensures.read
