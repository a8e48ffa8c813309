-- What was gathered and built is the plan.
use Rattle.store_partials.specs.PlanLaws.{drop_planned_of, drop_refused, drop_heeds, drop_there}
use Rattle.store_partials.proofs.planning.plan_drop.Goals as goal

pub returns-in-Err-clause-refused : goal.returns-in-Err-clause-refused
returns-in-Err-clause-refused g c =
    drop_refused c.args.parts.now c.args.host c.in-Some.file c.in-Some.ensures.number c.of_host-head.result c.of_host-head.ensures
    c.in-Err.refusal c.in-Err.ensures.kind

pub returns-in-Err-clause-partial : goal.returns-in-Err-clause-partial
returns-in-Err-clause-partial g c =
    drop_heeds c.args.parts.now c.args.host c.in-Some.file c.in-Some.ensures.number c.of_host-head.result c.of_host-head.ensures
    c.in-Err.refusal c.in-Err.ensures.partial

pub returns-in-Ok-build_drop-clause-planned : goal.returns-in-Ok-build_drop-clause-planned
returns-in-Ok-build_drop-clause-planned g c =
    drop_planned_of c.args.parts.now c.args.host c.in-Some.file c.in-Some.ensures.number c.of_host-head.result c.of_host-head.ensures
    c.in-Ok.counts c.in-Ok-build_drop.plan c.in-Ok.ensures.counts c.in-Ok.ensures.within c.in-Ok-build_drop.ensures

pub returns-in-Ok-build_drop-clause-partial : goal.returns-in-Ok-build_drop-clause-partial
returns-in-Ok-build_drop-clause-partial g c =
    drop_there c.args.parts.now c.args.host c.in-Some.file c.in-Some.ensures.number c.of_host-head.result c.of_host-head.ensures
    c.in-Ok.ensures.partial
