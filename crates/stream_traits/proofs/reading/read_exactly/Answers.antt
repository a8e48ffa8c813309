use Rattle.std.proofs.Common.{arith}
use Rattle.std.proofs.lemmas.Grind.{common_steps}
use Rattle.std.proofs.lemmas.Result.{err_from_is_err_and}
use Rattle.stream_traits.specs.ToldLaws.{TookFront-after}
use Rattle.stream_traits.proofs.reading.read_exactly.Goals as goal

pub returns-in_err-add_piece-clause-front : goal.returns-in_err-add_piece-clause-front
returns-in_err-add_piece-clause-front g c =
    let p = err_from_is_err_and c.from_residual-in_err-add_piece.result c.from_residual-in_err-add_piece.ensures.1 in
    rw p.1
    (TookFront-after _ _ _ c.loop-room.got.items _ _ c.loop-room.invariant.told c.in_err-add_piece.ensures.front
    (grind (arith, common_steps)))
