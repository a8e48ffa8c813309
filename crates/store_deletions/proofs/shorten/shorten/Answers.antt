-- A reading that plans, and a commit behind it.
use Rattle.std.proofs.Common.{ap, ◌∙◌}
use Rattle.journal_view.specs.View.{told}
use Rattle.store_deletions.specs.declared.plan.DeletionPlan.{DeletionPlan}
use Rattle.store_deletions.specs.RunLaws.{changes_planned, fits_planned, runs_unplanned, runs_not_written, runs_shortened}
use Rattle.store_deletions.proofs.Calling.{said_again, said_unwritten}
use Rattle.store_deletions.proofs.shorten.shorten.Goals as goal

pub returns-in-Err-clause-runs : goal.returns-in-Err-clause-runs
returns-in-Err-clause-runs g c = λ event answer shortening.
    runs_unplanned c.args.parts.now event answer c.args.host c.args.numbers.now shortening c.plan_deletion.new.parts
    (record { quiet = c.in-Err.ensures.quiet; others = c.in-Err.ensures.others }) c.in-Err.refusal c.in-Err.ensures.refused
    c.in-Err.ensures.awake c.in-Err.ensures.counted

pub write-requires-clause-changes : goal.write-requires-clause-changes
write-requires-clause-changes g c =
    changes_planned c.args.parts.now.catalog (told c.args.parts.now.journal) c.args.parts.now.counts c.args.host c.args.numbers.now
    c.in-Ok.plan c.in-Ok.ensures.within c.in-Ok.ensures.planned

pub accept-requires-clause-fits : goal.accept-requires-clause-fits
accept-requires-clause-fits g c =
    fits_planned c.args.parts.now.catalog (told c.args.parts.now.journal) c.args.parts.now.counts c.args.host c.args.numbers.now
    c.in-Ok.plan c.in-Ok.ensures.within c.in-Ok.ensures.planned c.write.new.self.catalog
    (c.in-Ok-write.ensures.catalog_same ∙ ap (λ p. p.catalog) c.in-Ok.ensures.others)

pub returns-in-Err-write-clause-runs : goal.returns-in-Err-write-clause-runs
returns-in-Err-write-clause-runs g c = λ event answer shortening.
    runs_not_written c.args.parts.now c.plan_deletion.new.parts event answer c.args.host c.args.numbers.now shortening c.in-Ok.plan
    c.in-Ok.ensures.within c.in-Ok.ensures.planned (record { quiet = c.in-Ok.ensures.quiet; others = c.in-Ok.ensures.others })
    (c.in-Ok.ensures.counted.stays (λ e. absurd cc)) c.write.new.self c.in-Err-write.refusal c.in-Err-write.ensures

pub returns-clause-runs : goal.returns-clause-runs
returns-clause-runs g c = λ event answer shortening.
    runs_shortened c.args.parts.now c.plan_deletion.new.parts event answer c.args.host c.args.numbers.now shortening c.in-Ok.plan
    c.in-Ok.ensures.within c.in-Ok.ensures.planned (record { quiet = c.in-Ok.ensures.quiet; others = c.in-Ok.ensures.others })
    (c.in-Ok.ensures.counted.stays (λ e. absurd cc)) c.write.new.self c.accept.new.parts c.in-Ok-write.field-0 c.in-Ok-write.ensures
    (record {
      catalog = c.accept.ensures.catalog;
      counts = c.accept.ensures.counts;
      partials = c.accept.ensures.partials;
      views = c.accept.ensures.views;
      journal = c.accept.ensures.journal;
      pool = c.accept.ensures.pool;
      sessions = c.accept.ensures.sessions;
      halted = c.accept.ensures.halted;
    })

pub returns-in-Err-clause-tables : goal.returns-in-Err-clause-tables
returns-in-Err-clause-tables g c =
    said_again DeletionPlan (Unit {0}) c.args.parts.now c.plan_deletion.new.parts c.args.host c.args.numbers.now c.in-Err.refusal c.in-Err.ensures.tables

pub returns-in-Err-write-clause-tables : goal.returns-in-Err-write-clause-tables
returns-in-Err-write-clause-tables g c =
    said_unwritten (Unit {0}) c.args.parts.now c.write.new.self c.args.host c.args.numbers.now c.in-Err-write.refusal c.in-Err-write.ensures.kind
