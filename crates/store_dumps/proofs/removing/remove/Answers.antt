use Rattle.std.proofs.Common.{refl, sym, ◌∙◌}
use Rattle.pool_changes.specs.Kept.{slots_of}
use Rattle.store_parts.specs.RefusalLaws.{runs_broken_by}
use Rattle.store_parts.specs.RefusedLaws.{runs_broken, runs_no_dump}
use Rattle.store_parts.specs.RunLaws.{runs_memory, reads_still, counted_still}
use Rattle.store_dumps.specs.RunningLaws.{runs_alike_memory, runs_alike_refused}
use Rattle.store_dumps.proofs.Removes.{no_dump_remove, no_path, remove_full, runs_remove_again, runs_removed, go_alike}
use Rattle.store_parts.specs.UndamagedLaws.{undamaged_broken}
use Rattle.store_dumps.proofs.removing.remove.Goals as goal

pub returns-in_err-at-clause-runs : goal.returns-in_err-at-clause-runs
returns-in_err-at-clause-runs g c = runs_broken_by _ _ _ _ _ _ c.from_residual.ensures.1 c.in_err-at.ensures.rule
    (runs_no_dump _ _ _ c.in_err-at.ensures.none (no_dump_remove c.args.session c.args.path.now c.args.token))

pub returns-in-Kept-clause-runs : goal.returns-in-Kept-clause-runs
returns-in-Kept-clause-runs g c = runs_remove_again c.args.parts.now c.args.session c.args.path.now c.args.token c.in_ok-at.at
    c.dump-dump.result.now c.in_ok-at.ensures.found c.dump-dump.ensures (sym c.in-Kept.ensures)

pub returns-in-Full-clause-runs : goal.returns-in-Full-clause-runs
returns-in-Full-clause-runs g c = runs_broken _ _ _
    (remove_full c.args.parts.now c.args.session c.args.path.now c.args.token c.in_ok-at.at c.dump-dump.result.now
    c.in_ok-at.ensures.found c.dump-dump.ensures (sym c.in-Full.ensures))

pub returns-in-Err-clause-runs : goal.returns-in-Err-clause-runs
returns-in-Err-clause-runs g c = runs_memory _ _ _ (reads_still _) (counted_still _ _ (λ e. e))

pub returns-in-Ok-remove-clause-runs : goal.returns-in-Ok-remove-clause-runs
returns-in-Ok-remove-clause-runs g c = runs_removed _ c.args.session c.args.path.now c.args.token c.in_ok-at.at c.dump-dump.result.now c.in_ok-at.ensures.found
    c.dump-dump.ensures (sym c.in-Fresh.ensures) _
    (c.in-Ok-remove.ensures.ok c.dump-dump.result.now
    c.dump-dump.ensures) refl refl refl refl refl refl
    (go_alike (slots_of c.args.parts.now.pool.names) (slots_of c.release_rows.new.pool.names) _ _
    (c.rows.ensures.rows ∙ c.in-Ok.ensures) c.release_rows.ensures.go)
    c.release_rows.ensures.form
    (c.in-Ok-remove.ensures.remove c.dump-dump.result.now c.dump-dump.ensures)
    c.in-Ok-remove.ensures.only

pub returns-in-Err-NoPath-clause-runs : goal.returns-in-Err-NoPath-clause-runs
returns-in-Err-NoPath-clause-runs g c = runs_alike_refused _ _ _ _ refl refl refl refl refl refl refl
    c.in-Err-NoPath.ensures.err
    (no_path _ c.args.session c.args.path.now c.args.token c.in_ok-at.at c.dump-dump.result.now c.in_ok-at.ensures.found
    c.dump-dump.ensures (sym c.in-Fresh.ensures)
    (c.in-Err-NoPath.ensures.no_path c.dump-dump.result.now c.in-Err-NoPath.field-0-is
    c.dump-dump.ensures))

pub returns-clause-runs : goal.returns-clause-runs
returns-clause-runs g c = runs_alike_memory _ _ _ refl refl refl refl refl refl refl c.in-Err-Memory.ensures.err

pub returns-in_err-at-clause-undamaged : goal.returns-in_err-at-clause-undamaged
returns-in_err-at-clause-undamaged g c = undamaged_broken c.from_residual.result _ c.from_residual.ensures.1
