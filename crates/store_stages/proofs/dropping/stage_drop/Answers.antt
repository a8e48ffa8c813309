use Rattle.std.proofs.Common.{refl}
use Rattle.store_parts.specs.RefusedLaws.{runs_no_stage}
use Rattle.store_parts.specs.StageLaws.{runs_stage_dropped}
use Rattle.store_stages.proofs.Opens.{no_stage_drop}
use Rattle.store_stages.proofs.dropping.stage_drop.Goals as goal

pub returns-in-None-clause-runs : goal.returns-in-None-clause-runs
returns-in-None-clause-runs g c = runs_no_stage _ _ c.args.number c.in-None.ensures.index (no_stage_drop c.args.number)

pub returns-clause-runs : goal.returns-clause-runs
returns-clause-runs g c =
    runs_stage_dropped c.args.parts.now _ refl (record { dumps = refl; restores = refl; readers = refl; sequence = refl }) c.args.number
    c.in-Some.at c.take-stage.result c.in-Some.ensures.index c.take-stage.ensures.taken c.take-stage.ensures.others c.take-stage.ensures.next
