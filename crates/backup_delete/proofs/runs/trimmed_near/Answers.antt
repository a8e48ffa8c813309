-- At a backup that isn't filled the table decides what is at its paths.
use Rattle.std.proofs.Common.{refl, sym, ◌∙◌}
use Rattle.backup_delete.proofs.RunSteps.{going, unfilled_tree}
use Rattle.backup_delete.proofs.TowerSteps.{near_all}
use Rattle.backup_delete.proofs.runs.trimmed_near.Goals as goal

pub returns : goal.returns
returns c =
    let lines = c.args.lines.now in
    let tables = c.args.tables.now in
    let goes = going c.args.entries.now lines c.args.index c.requires.within (sym c.goes_on.ensures ∙ c.if-not-goes_on.false) in
    near_all lines tables c.args.index c.index-tables-index.result c.args.entries.now c.in_ok-here.here c.in_ok-later.later c.requires.order
    c.rows-near_rows.ensures.in_order c.rows-rows.ensures.in_order
    (unfilled_tree lines tables c.args.index _ c.index-tables-index.result refl goes.1 c.requires.same c.index-tables-index.is goes.0)
    c.in_ok-later.ensures (c.is_empty.ensures.0 c.if-not-is_empty.false) c.in_ok-here.ensures
