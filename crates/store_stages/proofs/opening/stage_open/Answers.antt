use Rattle.std.proofs.Common.{refl}
use Rattle.store_parts.specs.RefusalLaws.{runs_broken_by}
use Rattle.store_parts.specs.RefusedLaws.{runs_no_dump}
use Rattle.store_parts.specs.StageLaws.{runs_stage_opened, runs_stage_memory, runs_stage_spent}
use Rattle.store_parts.specs.UndamagedLaws.{undamaged_broken}
use Rattle.store_stages.proofs.Opens.{no_dump_open}
use Rattle.store_stages.proofs.opening.stage_open.Goals as goal

pub returns-in_err-_at-clause-runs : goal.returns-in_err-_at-clause-runs
returns-in_err-_at-clause-runs g c = runs_broken_by _ _ _ _ _ _ c.from_residual.ensures.1 c.in_err-_at.ensures.rule
    (runs_no_dump _ _ _ c.in_err-_at.ensures.none (no_dump_open c.args.session))

pub returns-in_err-_at-clause-undamaged : goal.returns-in_err-_at-clause-undamaged
returns-in_err-_at-clause-undamaged g c = undamaged_broken c.from_residual.result _ c.from_residual.ensures.1

pub returns-then-parts-ge18446744073709551615-clause-runs : goal.returns-then-parts-ge18446744073709551615-clause-runs
returns-then-parts-ge18446744073709551615-clause-runs g c =
    runs_stage_spent c.args.parts.now c.args.session c.in_ok-_at._at c.in_ok-_at.ensures.found c.if-parts-ge18446744073709551615.true

pub returns-in-Ok-clause-runs : goal.returns-in-Ok-clause-runs
returns-in-Ok-clause-runs g c =
    runs_stage_opened c.args.parts.now _ refl (record { dumps = refl; restores = refl; readers = refl; sequence = refl }) c.args.session
    c.in_ok-_at._at c.in_ok-_at.ensures.found c.if-parts-ge18446744073709551615.false c.start-digest.result c.start-digest.ensures
    c.in-Ok.ensures.ok c.in-Ok.ensures.next c.in-Ok.number c.in-Ok.ensures.number

pub returns-in-Err-clause-runs : goal.returns-in-Err-clause-runs
returns-in-Err-clause-runs g c =
    runs_stage_memory c.args.parts.now _ refl (record { dumps = refl; restores = refl; readers = refl; sequence = refl }) c.args.session
    c.in-Err.ensures.err c.in-Err.ensures.same_next
