use Rattle.std.specs.BTreeSet.{contains}
use Rattle.std.proofs.Common.{sym, ◌∙◌}
use Rattle.disk_trait.specs.Order.{file_cmp}
use Rattle.pool_changes.specs.StepLaws.{first_of}
use Rattle.store_opening.proofs.MissingTables.{gap_next}
use Rattle.store_opening.proofs.tables.first_gap.Goals as goal

pub loop-line-preserved : goal.loop-line-preserved
loop-line-preserved c =
    gap_next (contains file_cmp c.args.tables.now) c.args.host _ _ _ c.args.lines.now
    (first_of c.args.lines.now c.loop-line.line-index _ c.loop-line-test.true) (sym c.contains.ensures ∙ c.if-not-contains.false)
    c.loop-line.invariant
