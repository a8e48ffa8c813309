use Rattle.std.proofs.Common.{refl, arith}
use Rattle.std.proofs.lemmas.Bool.{false≢true}
use Rattle.backup_delete.proofs.RunSteps.{stop_behind, stop_none, go_here}
use Rattle.backup_delete.proofs.runs.goes_on.Goals as goal

pub returns-then-index-lines : goal.returns-then-index-lines
returns-then-index-lines c =
    stop_behind c.args.entries.now c.args.lines.now c.args.index (omega (arith, c.if-index-lines.true))

pub returns-then-is_empty : goal.returns-then-is_empty
returns-then-is_empty c = stop_none c.args.entries.now _ (c.if-is_empty.ensures.0 refl)

pub returns : goal.returns
returns c =
    go_here c.args.entries.now c.args.lines.now c.args.index _ (λ e. false≢true (c.if-is_empty.ensures.1 e)) (omega (arith, c.requires))
    c.is_filled.ensures
