use Rattle.std.proofs.Common.{sym, ◌∙◌}
use Rattle.store_reads.proofs.content.read_piece.Goals as goal

pub returns-in-Some-clause-piece : goal.returns-in-Some-clause-piece
returns-in-Some-clause-piece g c = λ all told_is. sym (c.in-Ok.ensures.found all told_is) ∙ c.in-Some.is
