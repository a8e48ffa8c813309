use Rattle.std.proofs.Common.{take, ◌∙◌}
use Rattle.ref_counts.specs.Numbers.{total}
use Rattle.backup_delete.specs.Folds.{added_tables}
use Rattle.backup_delete.proofs.Steps.{one_change}
use Rattle.backup_delete.proofs.deletion.added_counts.Goals as goal

pub loop-change-preserved : goal.loop-change-preserved
loop-change-preserved c = λ id.
    c.in_ok-count_added.ensures id (total id (added_tables (take c.loop-change.change-index c.args.all.now))) (c.loop-change.invariant id)
    ∙ one_change id c.args.all.now c.loop-change.change-index c.change-item.result c.loop-change-test.true c.change-item.is
