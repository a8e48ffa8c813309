-- What was written before BlackoutPeriods stays behind the old bytes.
use Rattle.backup_rules.proofs.Prefixes.{still_prefix, on_err}
use Rattle.backup_rules.proofs.writing.put_early.Goals as goal

pub returns-in_err-put_periods-clause-err : goal.returns-in_err-put_periods-clause-err
returns-in_err-put_periods-clause-err c =
    on_err _ (still_prefix c.args.out.now.items c.put_run.new.out.items _ _ c.in_ok-put_run.ensures.ok
    (still_prefix c.put_run.new.out.items c.put_counts.new.out.items _ _ c.in_ok-put_counts.ensures.ok
    (still_prefix c.put_counts.new.out.items c.put_run-2.new.out.items _ _ c.in_ok-put_run-2.ensures.ok c.in_err-put_periods.ensures.err)))
