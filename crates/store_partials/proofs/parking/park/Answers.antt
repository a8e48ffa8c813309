-- The event is a reading that plans, and a commit behind it.
use Rattle.store_parts.specs.RefusalLaws.{runs_broken_by}
use Rattle.store_partials.specs.Heeding.{IsKnownFor}
use Rattle.store_partials.specs.ParkLaws.{runs_no_session, runs_not_planned, changes_planned, counted_planned, held_planned, runs_not_written, runs_parked}
use Rattle.store_partials.specs.HeedLaws.{heeded_awake, heeds_not_planned, refused_for_name}
use Rattle.store_partials.proofs.parking.park.Goals as goal

pub returns-in_err-at-clause-runs : goal.returns-in_err-at-clause-runs
returns-in_err-at-clause-runs g c =
    runs_broken_by _ _ _ _ _ _ c.from_residual.ensures.1 c.in_err-at.ensures.rule
    (runs_no_session c.args.parts.now c.args.session c.in_err-at.ensures.none)

pub returns-in-Err-clause-runs : goal.returns-in-Err-clause-runs
returns-in-Err-clause-runs g c =
    runs_not_planned c.args.parts.now c.plan_park.new.parts c.args.session c.in_ok-at.at c.in-Err.refusal
    c.in_ok-at.ensures.within c.in-Err.ensures.quiet c.in-Err.ensures.others c.in-Err.ensures.refused
    (heeded_awake _ _ c.in-Err.refusal
    (refused_for_name c.args.parts.now c.args.session c.in_ok-at.at c.in_ok-at.ensures.found c.in_ok-at.ensures.within c.in-Err.refusal
    c.in-Err.ensures.partial)) c.in-Err.ensures.counted

pub returns-in-Err-clause-heeds : goal.returns-in-Err-clause-heeds
returns-in-Err-clause-heeds g c =
    heeds_not_planned c.args.parts.now (IsKnownFor c.args.parts.now c.args.session) c.plan_park.new.parts c.in-Err.refusal
    c.in-Err.ensures.quiet c.in-Err.ensures.others
    (refused_for_name c.args.parts.now c.args.session c.in_ok-at.at c.in_ok-at.ensures.found c.in_ok-at.ensures.within c.in-Err.refusal
    c.in-Err.ensures.partial)

pub write-requires-clause-changes : goal.write-requires-clause-changes
write-requires-clause-changes g c =
    changes_planned c.args.parts.now c.plan_park.new.parts c.args.session c.in_ok-at.at c.in-Ok.plan c.in_ok-at.ensures.found
    c.in_ok-at.ensures.within c.in-Ok.ensures.quiet c.in-Ok.ensures.others c.in-Ok.ensures.planned

pub returns-in-Err-write-clause-runs : goal.returns-in-Err-write-clause-runs
returns-in-Err-write-clause-runs g c =
    runs_not_written c.args.parts.now c.plan_park.new.parts c.args.session c.in_ok-at.at c.in-Ok.plan c.in_ok-at.ensures.found
    c.in_ok-at.ensures.within c.in-Ok.ensures.quiet c.in-Ok.ensures.others c.in-Ok.ensures.planned
    (c.in-Ok.ensures.counted.stays (λ e. absurd cc)) c.write.new.self c.in-Err-write.refusal c.in-Err-write.ensures

pub accept_park-requires-clause-counted : goal.accept_park-requires-clause-counted
accept_park-requires-clause-counted g c =
    counted_planned c.args.parts.now c.plan_park.new.parts c.args.session c.in_ok-at.at c.in-Ok.plan c.in_ok-at.ensures.found
    c.in_ok-at.ensures.within c.in-Ok.ensures.quiet c.in-Ok.ensures.others c.in-Ok.ensures.planned c.write.new.self.counts
    c.in-Ok-write.ensures.counts_same

pub accept_park-requires-clause-held : goal.accept_park-requires-clause-held
accept_park-requires-clause-held g c =
    held_planned c.args.parts.now c.plan_park.new.parts c.args.session c.in_ok-at.at c.in-Ok.plan c.in_ok-at.ensures.found
    c.in_ok-at.ensures.within c.in-Ok.ensures.quiet c.in-Ok.ensures.others c.in-Ok.ensures.planned c.write.new.self.partials
    c.in-Ok-write.ensures.partials_same

pub returns-clause-runs : goal.returns-clause-runs
returns-clause-runs g c =
    runs_parked c.args.parts.now c.plan_park.new.parts c.args.session c.in_ok-at.at c.in-Ok.plan c.in_ok-at.ensures.found
    c.in_ok-at.ensures.within c.in-Ok.ensures.quiet c.in-Ok.ensures.others c.in-Ok.ensures.planned
    (c.in-Ok.ensures.counted.stays (λ e. absurd cc)) c.write.new.self c.accept_park.new.parts c.in-Ok-write.field-0 c.in-Ok-write.ensures (record {
      pool = c.accept_park.ensures.pool;
      form = c.accept_park.ensures.form;
      counts = c.accept_park.ensures.counts;
      partials = c.accept_park.ensures.partials;
      journal = c.accept_park.ensures.journal;
      catalog = c.accept_park.ensures.catalog;
      sessions = c.accept_park.ensures.sessions;
      views = c.accept_park.ensures.views;
      halted = c.accept_park.ensures.halted;
    })
