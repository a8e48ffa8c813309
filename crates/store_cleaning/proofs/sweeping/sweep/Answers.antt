use Rattle.store_cleaning.proofs.StageFiles.{on_ok, only_open_still, runs_behind_stages, runs_stages_left, undamaged_left}
use Rattle.store_cleaning.proofs.sweeping.sweep.Goals as goal

pub returns-in-Err-clause-runs : goal.returns-in-Err-clause-runs
returns-in-Err-clause-runs g c =
    runs_stages_left c.args.parts.now c.sweep_stages.new.parts c.in-Err.ensures.others c.in-Err.ensures.drops c.in-Err.ensures.halted
    c.in-Err.refusal c.in-Err.ensures.kind c.in-Err.ensures.counted

pub returns-in-Err-clause-undamaged : goal.returns-in-Err-clause-undamaged
returns-in-Err-clause-undamaged g c = undamaged_left c.in-Err.refusal c.in-Err.ensures.kind

pub returns-clause-runs : goal.returns-clause-runs
returns-clause-runs g c =
    runs_behind_stages c.args.parts.now c.sweep_stages.new.parts c.in-Ok.ensures.others c.in-Ok.ensures.drops c.in-Ok.ensures.halted
    c.sweep_pool.new.parts c.sweep_pool.result (c.in-Ok.ensures.counted.stays (λ e. absurd cc)) c.sweep_pool.ensures.undamaged
    c.sweep_pool.ensures.runs

pub returns-clause-stages : goal.returns-clause-stages
returns-clause-stages g c = on_ok c.sweep_pool.result _ (λ all is.
    only_open_still c.args.parts.now.sessions.stages.items.items all _ _ (c.in-Ok.ensures.done all is) c.sweep_pool.ensures.stages)
