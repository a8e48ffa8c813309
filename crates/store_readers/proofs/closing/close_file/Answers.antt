use Rattle.std.proofs.Common.{refl}
use Rattle.store_parts.specs.RefusalLaws.{runs_broken_by}
use Rattle.store_parts.specs.RefusedLaws.{runs_no_reader}
use Rattle.store_parts.specs.UndamagedLaws.{undamaged_broken}
use Rattle.store_readers.proofs.Closes.{no_reader_close, runs_closed}
use Rattle.store_readers.proofs.closing.close_file.Goals as goal

pub returns-in_err-at-clause-runs : goal.returns-in_err-at-clause-runs
returns-in_err-at-clause-runs g c = runs_broken_by _ _ _ _ _ _ c.from_residual.ensures.1 c.in_err-at.ensures.rule
    (runs_no_reader _ _ _ c.in_err-at.ensures.none (no_reader_close c.args.number))

pub returns-clause-runs : goal.returns-clause-runs
returns-clause-runs g c = runs_closed c.args.parts.now c.args.number _ c.in_ok-at.at c.take-closed.result c.in_ok-at.ensures.found
    c.take-closed.ensures.taken (record { journal = refl; catalog = refl; counts = refl; partials = refl; views = refl; halted = refl; form = c.release.ensures.form })
    c.release.ensures.go c.take-closed.ensures.others c.take-closed.ensures.next
    (record { dumps = refl; restores = refl; stages = refl; sequence = refl })

pub returns-in_err-at-clause-undamaged : goal.returns-in_err-at-clause-undamaged
returns-in_err-at-clause-undamaged g c = undamaged_broken c.from_residual.result _ c.from_residual.ensures.1
