-- The parts, one behind another.
use Rattle.std.proofs.Common.{sym, arith}
use Rattle.wire_bytes.specs.GrammarLaws.{refused_again, then_finds, then_refuses, first_refuses}
use Rattle.backup_rules.proofs.RunSteps.{found_as, same_run}
use Rattle.backup_rules.proofs.reading.read_old.Goals as goal

pub returns-in_err-read_run-clause-old : goal.returns-in_err-read_run-clause-old
returns-in_err-read_run-clause-old c = refused_again _ _ _ c.from_residual.ensures.1 (first_refuses _ c.in_err-read_run.ensures.run)

pub returns-in_err-old_full_keep_cnt-clause-old : goal.returns-in_err-old_full_keep_cnt-clause-old
returns-in_err-old_full_keep_cnt-clause-old c =
    refused_again _ _ _ c.from_residual-in_err-old_full_keep_cnt.ensures.1 (then_refuses _ c.in_ok-read_run.ensures.run (first_refuses _ c.in_err-old_full_keep_cnt.ensures))

pub returns-in_err-read_run-2-clause-old : goal.returns-in_err-read_run-2-clause-old
returns-in_err-read_run-2-clause-old c =
    refused_again _ _ _ c.from_residual-in_err-read_run-2.ensures.1
    (then_refuses _ c.in_ok-read_run.ensures.run (then_refuses _ c.in_ok-old_full_keep_cnt.ensures c.in_err-read_run-2.ensures.run))

pub returns-clause-old : goal.returns-clause-old
returns-clause-old c =
    then_finds _ (found_as (sym (same_run 10 1 11 _ _ (omega arith) c.in_ok-read_run-2.ensures.before)) c.in_ok-read_run.ensures.run)
    (then_finds _ c.in_ok-old_full_keep_cnt.ensures c.in_ok-read_run-2.ensures.run)
