use Rattle.std.proofs.Common.{refl, ap}
use Rattle.std.specs.Prelude.{Err}
use Rattle.store_cleaning.proofs.Sweeps.{runs_swept, runs_unswept}
use Rattle.store_cleaning.proofs.StageFiles.{stages_swept}
use Rattle.store_cleaning.proofs.sweeping.sweep_pool.Goals as goal

pub returns-clause-runs : goal.returns-clause-runs
returns-clause-runs g c = runs_swept _ _ refl refl refl refl refl refl c.in-Ok.ensures.form c.in-Ok.ensures.stays c.in-Ok.ensures.pruned
    c.in-Ok.ensures.sweeps c.in-Ok.ensures.certain c.in-Ok.ensures.any_moment c.in-Ok.ensures.done c.in-Ok.ensures.counted (λ e. absurd cc)

pub returns-in-Err-clause-runs : goal.returns-in-Err-clause-runs
returns-in-Err-clause-runs g c = runs_unswept _ _ refl refl refl refl refl refl c.in-Err.ensures.form c.in-Err.ensures.stays c.in-Err.ensures.pruned
    c.in-Err.ensures.sweeps c.in-Err.ensures.certain c.in-Err.ensures.any_moment c.in-Err.ensures.counted (ap Err c.in-Err.ensures.fault)

pub returns-clause-stages : goal.returns-clause-stages
returns-clause-stages g c = λ all is.
    stages_swept _ _ (g.D.Disk.files c.args.parts.now.journal.disk) (g.D.Disk.files c.sweep.new.journal.disk) all is c.in-Ok.ensures.sweeps

pub returns-in-Err-clause-stages : goal.returns-in-Err-clause-stages
returns-in-Err-clause-stages g c = λ all is.
    stages_swept _ _ (g.D.Disk.files c.args.parts.now.journal.disk) (g.D.Disk.files c.sweep.new.journal.disk) all is c.in-Err.ensures.sweeps
