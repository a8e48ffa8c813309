use Rattle.std.proofs.Common.{refl, sym}
use Rattle.std.proofs.lemmas.Option.{slice_get_read}
use Rattle.store_parts.specs.RefusalLaws.{runs_broken_by}
use Rattle.store_parts.specs.RefusedLaws.{runs_broken, runs_no_dump}
use Rattle.store_stages.proofs.Puts.{no_dump_put, put_full}
use Rattle.store_stages.proofs.Repeats.{runs_again}
use Rattle.store_stages.proofs.putting.put_staged.Goals as goal

pub returns-in_err-at-clause-runs : goal.returns-in_err-at-clause-runs
returns-in_err-at-clause-runs g c = runs_broken_by _ _ _ _ _ _ c.from_residual.ensures.1 c.in_err-at.ensures.rule
    (runs_no_dump _ _ _ c.in_err-at.ensures.none (no_dump_put c.args.session c.args.path.now c.args.file.now c.args.token))

pub returns-in-Kept-clause-runs : goal.returns-in-Kept-clause-runs
returns-in-Kept-clause-runs g c = runs_again c.args.parts.now c.args.session c.args.path.now c.args.file.now c.args.token c.in_ok-at.at
    c.index.result.now c.in_ok-at.ensures.found (slice_get_read _ _ _ _ refl c.in_ok-at.ensures.within c.index.ensures)
    (sym c.in-Kept.ensures) _ refl (record { dumps = refl; restores = refl; readers = refl; sequence = refl }) c.end_stage.ensures.left
    c.end_stage.ensures.next

pub returns-in-Full-clause-runs : goal.returns-in-Full-clause-runs
returns-in-Full-clause-runs g c = runs_broken _ _ _
    (put_full c.args.parts.now c.args.session c.args.path.now c.args.file.now c.args.token c.in_ok-at.at c.index.result.now
    c.in_ok-at.ensures.found (slice_get_read _ _ _ _ refl c.in_ok-at.ensures.within c.index.ensures) (sym c.in-Full.ensures))
