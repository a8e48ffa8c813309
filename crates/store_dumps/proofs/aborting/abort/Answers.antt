use Rattle.std.proofs.Common.{refl}
use Rattle.store_parts.specs.RefusalLaws.{runs_broken_by}
use Rattle.store_parts.specs.RefusedLaws.{runs_no_dump}
use Rattle.store_parts.specs.RunLaws.{runs_memory, counted_still}
use Rattle.store_dumps.specs.RunningLaws.{reads_same}
use Rattle.store_dumps.proofs.Aborts.{no_dump_abort, runs_aborted}
use Rattle.store_parts.specs.UndamagedLaws.{undamaged_broken}
use Rattle.store_dumps.proofs.aborting.abort.Goals as goal

pub returns-in_err-at-clause-runs : goal.returns-in_err-at-clause-runs
returns-in_err-at-clause-runs g c = runs_broken_by _ _ _ _ _ _ c.from_residual.ensures.1 c.in_err-at.ensures.rule
    (runs_no_dump _ _ _ c.in_err-at.ensures.none (no_dump_abort c.args.session))

pub returns-in-Err-clause-runs : goal.returns-in-Err-clause-runs
returns-in-Err-clause-runs g c = runs_memory _ _ _ (reads_same _ _ refl c.in-Err.ensures.err refl refl refl refl refl refl) (counted_still _ _ (λ e. e))

pub returns-clause-runs : goal.returns-clause-runs
returns-clause-runs g c = runs_aborted _ c.args.session _ c.in_ok-at.at c.dump-2.result.now c.in_ok-at.ensures.found c.dump-2.ensures
    c.take_dump-dump.new.self c.take_dump-dump.ensures.only c.take_dump-dump.ensures.others
    (record { dumps = refl; restores = refl; readers = refl; sequence = refl }) c.end_those_of.ensures.left c.end_those_of.ensures.next
    refl refl refl refl refl refl c.in-Ok.ensures.go c.release_dump.ensures.form

pub returns-in_err-at-clause-undamaged : goal.returns-in_err-at-clause-undamaged
returns-in_err-at-clause-undamaged g c = undamaged_broken c.from_residual.result _ c.from_residual.ensures.1
