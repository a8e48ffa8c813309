use Rattle.std.proofs.Math.ListN.{drop_of_length-le}
use Rattle.rule_texts.proofs.TextLaws.{each_done}
use Rattle.rule_texts.proofs.periods.read_each.Goals as goal

pub returns-clause-ok : goal.returns-clause-ok
returns-clause-ok c =
    let none = drop_of_length-le c.args.pieces.now {i = c.loop-piece.piece-index} c.loop-piece-test.false in
    each_done _ c.loop-piece.periods (rw none at c.loop-piece.invariant.rest) c.loop-piece.invariant.few
