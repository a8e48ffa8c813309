-- The parts, one behind another.
use Rattle.std.proofs.Common.{sym}
use Rattle.wire_bytes.specs.GrammarLaws.{refused_again, then_finds, then_refuses, first_refuses}
use Rattle.backup_rules.proofs.RunSteps.{found_as}
use Rattle.backup_rules.proofs.reading.read_early.Goals as goal

pub returns-in_err-read_run-clause-early : goal.returns-in_err-read_run-clause-early
returns-in_err-read_run-clause-early c = refused_again _ _ _ c.from_residual.ensures.1 (first_refuses _ c.in_err-read_run.ensures.run)

pub returns-in_err-full_keep_cnt-clause-early : goal.returns-in_err-full_keep_cnt-clause-early
returns-in_err-full_keep_cnt-clause-early c =
    refused_again _ _ _ c.from_residual-in_err-full_keep_cnt.ensures.1 (then_refuses _ c.in_ok-read_run.ensures.run (first_refuses _ c.in_err-full_keep_cnt.ensures))

pub returns-in_err-read_run-2-clause-early : goal.returns-in_err-read_run-2-clause-early
returns-in_err-read_run-2-clause-early c =
    refused_again _ _ _ c.from_residual-in_err-read_run-2.ensures.1
    (then_refuses _ c.in_ok-read_run.ensures.run (then_refuses _ c.in_ok-full_keep_cnt.ensures (first_refuses _ c.in_err-read_run-2.ensures.run)))

pub returns-in_err-blackout_periods-clause-early : goal.returns-in_err-blackout_periods-clause-early
returns-in_err-blackout_periods-clause-early c =
    refused_again _ _ _ c.from_residual-in_err-blackout_periods.ensures.1
    (then_refuses _ c.in_ok-read_run.ensures.run (then_refuses _ c.in_ok-full_keep_cnt.ensures (then_refuses _ c.in_ok-read_run-2.ensures.run c.in_err-blackout_periods.ensures)))

pub returns-clause-early : goal.returns-clause-early
returns-clause-early c =
    then_finds _ (found_as (sym c.in_ok-read_run-2.ensures.before) c.in_ok-read_run.ensures.run)
    (then_finds _ c.in_ok-full_keep_cnt.ensures (then_finds _ c.in_ok-read_run-2.ensures.run c.in_ok-blackout_periods.ensures))
