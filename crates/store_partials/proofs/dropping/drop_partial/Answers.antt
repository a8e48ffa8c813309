-- The event is a reading that plans, and a commit behind it.
use Rattle.std.proofs.Common.{refl}
use Rattle.store_parts.specs.RefusalLaws.{runs_broken_by}
use Rattle.store_partials.specs.DropLaws.{runs_no_host, runs_no_partial, head_none, head_some, runs_drop_refused, drop_planned, runs_not_written, runs_dropped}
use Rattle.store_partials.specs.HeedLaws.{heeded_awake}
use Rattle.store_partials.proofs.dropping.drop_partial.Goals as goal

pub returns-in_err-place-clause-runs : goal.returns-in_err-place-clause-runs
returns-in_err-place-clause-runs g c =
    runs_broken_by _ _ _ _ _ _ c.from_residual.ensures.1 c.in_err-place.ensures.rule
    (runs_no_host c.args.parts.now c.args.host.now c.in_err-place.ensures.none)

pub returns-then-is_none-clause-runs : goal.returns-then-is_none-clause-runs
returns-then-is_none-clause-runs g c =
    runs_no_partial c.args.parts.now c.args.host.now c.in_ok-place.place c.in_ok-place.ensures.found
    (head_none c.args.parts.now.partials c.in_ok-place.place c.of_host.result c.is_none.result
    c.of_host.ensures c.is_none.ensures c.if-is_none.true)

pub returns-in-Err-clause-runs : goal.returns-in-Err-clause-runs
returns-in-Err-clause-runs g c =
    runs_drop_refused c.args.parts.now c.args.host.now c.in_ok-place.place c.in_ok-place.ensures.found
    (head_some c.args.parts.now.partials c.in_ok-place.place c.of_host.result c.is_none.result
    c.of_host.ensures c.is_none.ensures c.if-is_none.false) c.plan_drop.new.parts c.in-Err.refusal c.in-Err.ensures.quiet
    c.in-Err.ensures.others c.in-Err.ensures.refused (heeded_awake _ _ c.in-Err.refusal c.in-Err.ensures.partial)
    c.in-Err.ensures.counted

pub write-requires-clause-changes : goal.write-requires-clause-changes
write-requires-clause-changes g c =
    drop_planned c.args.parts.now c.plan_drop.new.parts c.args.host.now c.in_ok-place.place c.in-Ok.plan c.in_ok-place.ensures.found
    (head_some c.args.parts.now.partials c.in_ok-place.place c.of_host.result c.is_none.result
    c.of_host.ensures c.is_none.ensures c.if-is_none.false) c.in-Ok.ensures.quiet c.in-Ok.ensures.others
    c.in-Ok.ensures.planned

pub returns-in-Err-write-clause-runs : goal.returns-in-Err-write-clause-runs
returns-in-Err-write-clause-runs g c =
    runs_not_written c.args.parts.now c.plan_drop.new.parts c.args.host.now c.in_ok-place.place c.in-Ok.plan c.in_ok-place.ensures.found
    (head_some c.args.parts.now.partials c.in_ok-place.place c.of_host.result c.is_none.result
    c.of_host.ensures c.is_none.ensures c.if-is_none.false) c.in-Ok.ensures.quiet c.in-Ok.ensures.others
    c.in-Ok.ensures.planned
    (c.in-Ok.ensures.counted.stays (λ e. absurd cc)) c.write.new.self c.in-Err-write.refusal c.in-Err-write.ensures

pub returns-clause-runs : goal.returns-clause-runs
returns-clause-runs g c =
    runs_dropped c.args.parts.now c.plan_drop.new.parts c.args.host.now c.in_ok-place.place c.in-Ok.plan c.in_ok-place.ensures.found
    (head_some c.args.parts.now.partials c.in_ok-place.place c.of_host.result c.is_none.result
    c.of_host.ensures c.is_none.ensures c.if-is_none.false) c.in-Ok.ensures.quiet c.in-Ok.ensures.others
    c.in-Ok.ensures.planned
    (c.in-Ok.ensures.counted.stays (λ e. absurd cc)) c.write.new.self _ c.in-Ok-write.field-0 c.in-Ok-write.ensures (record {
      counts = c.set.ensures;
      partials = c.unpark.ensures;
      journal = refl;
      pool = refl;
      catalog = refl;
      sessions = refl;
      views = refl;
      halted = refl;
    })
