use Rattle.std.proofs.Common.{refl}
use Rattle.journal_view.specs.ViewLaws.{Quiet-still}
use Rattle.store_parts.specs.RefusalLaws.{runs_broken_by}
use Rattle.store_parts.specs.RefusedLaws.{runs_no_restore}
use Rattle.store_parts.specs.RunLaws.{counted_still}
use Rattle.store_restores.proofs.Closes.{no_restore_close, runs_closed}
use Rattle.store_parts.specs.UndamagedLaws.{undamaged_broken}
use Rattle.store_restores.proofs.closing.close_read.Goals as goal

pub returns-in_err-at-clause-runs : goal.returns-in_err-at-clause-runs
returns-in_err-at-clause-runs g c = runs_broken_by _ _ _ _ _ _ c.from_residual.ensures.1 c.in_err-at.ensures.rule
    (runs_no_restore _ _ _ c.in_err-at.ensures.none (no_restore_close c.args.restore))

pub returns-clause-runs : goal.returns-clause-runs
returns-clause-runs g c = runs_closed _ c.args.restore _ c.in_ok-at.at c.take_restore-closed.result c.in_ok-at.ensures.found
    c.take_restore-closed.ensures.taken (Quiet-still _) refl refl refl refl refl _ c.rows.ensures.rows c.release_rows.ensures.go
    c.release_rows.ensures.form c.take_restore-closed.ensures.others c.take_restore-closed.ensures.only
    (counted_still _ _ (λ e. e)) (λ e. e)

pub returns-in_err-at-clause-undamaged : goal.returns-in_err-at-clause-undamaged
returns-in_err-at-clause-undamaged g c = undamaged_broken c.from_residual.result _ c.from_residual.ensures.1
