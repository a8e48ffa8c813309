-- One more period behind those that were written.
use Rattle.wire_bytes.specs.ItemLaws.{items_put_more}
use Rattle.backup_rules.specs.Parts.{period_bytes}
use Rattle.backup_rules.proofs.Prefixes.{still_prefix, on_err}
use Rattle.backup_rules.proofs.writing.put_each_period.Goals as goal

pub loop-period-preserved : goal.loop-period-preserved
loop-period-preserved c = items_put_more period_bytes c.args.periods.now c.loop-period.period-index c.period-item.result c.period-item.result _ _ _ c.loop-period-test.true c.period-item.is c.loop-period.invariant c.in_ok-put_period.ensures.ok

pub returns-in_err-put_period-clause-err : goal.returns-in_err-put_period-clause-err
returns-in_err-put_period-clause-err c = on_err _ (still_prefix _ _ _ _ c.loop-period.invariant c.in_err-put_period.ensures.err)
