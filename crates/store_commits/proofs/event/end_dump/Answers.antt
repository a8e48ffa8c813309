-- A commit is a reading that plans, and a commit of the journal behind it.
use Rattle.store_commits.specs.EventLaws.{runs_not_planned}
use Rattle.store_commits.specs.HoldLaws.{changes_planned, fits_planned, within_planned, runs_not_written, runs_committed}
use Rattle.store_commits.specs.Judged.{IsFree}
use Rattle.store_commits.specs.HeedLaws.{heeded_awake, heeds_not_planned, heeds_not_written, heeds_committed}
use Rattle.store_commits.proofs.event.end_dump.Goals as goal

pub returns-in-Err-clause-runs : goal.returns-in-Err-clause-runs
returns-in-Err-clause-runs g c =
    λ event name ends. runs_not_planned c.args.parts.now c.plan_commit.new.parts event name c.args.at c.args.line c.in-Err.refusal ends
    c.requires.within c.in-Err.ensures.quiet c.in-Err.ensures.others c.in-Err.ensures.refused
    (λ session there. heeded_awake _ _ _ c.in-Err.refusal (c.in-Err.ensures.tables session there)) c.in-Err.ensures.counted

pub write-requires-clause-changes : goal.write-requires-clause-changes
write-requires-clause-changes g c =
    changes_planned c.args.parts.now c.plan_commit.new.parts c.args.at c.args.line c.in-Ok.plan
    c.requires.within c.in-Ok.ensures.quiet c.in-Ok.ensures.others c.in-Ok.ensures.planned

pub returns-in-Err-write-clause-runs : goal.returns-in-Err-write-clause-runs
returns-in-Err-write-clause-runs g c =
    λ event name ends. runs_not_written c.args.parts.now c.plan_commit.new.parts c.args.at c.args.line c.in-Ok.plan
    c.requires.within c.in-Ok.ensures.quiet c.in-Ok.ensures.others c.in-Ok.ensures.planned event name ends
    (c.in-Ok.ensures.counted.stays (λ e. absurd cc)) c.write.new.self c.in-Err-write.refusal c.in-Err-write.ensures

pub accept_commit-requires-clause-fits : goal.accept_commit-requires-clause-fits
accept_commit-requires-clause-fits g c =
    fits_planned c.args.parts.now c.plan_commit.new.parts c.args.at c.args.line c.in-Ok.plan
    c.requires.within c.in-Ok.ensures.quiet c.in-Ok.ensures.others c.in-Ok.ensures.planned c.write.new.self.catalog
    c.in-Ok-write.ensures.catalog_same

pub accept_commit-requires-clause-counted : goal.accept_commit-requires-clause-counted
accept_commit-requires-clause-counted g c =
    within_planned c.args.parts.now c.plan_commit.new.parts c.args.at c.args.line c.in-Ok.plan
    c.requires.within c.in-Ok.ensures.quiet c.in-Ok.ensures.others c.in-Ok.ensures.planned c.write.new.self.counts
    c.in-Ok-write.ensures.counts_same

pub returns-clause-runs : goal.returns-clause-runs
returns-clause-runs g c =
    λ event name ends. runs_committed c.args.parts.now c.plan_commit.new.parts c.args.at c.args.line c.in-Ok.plan
    c.requires.within c.in-Ok.ensures.quiet c.in-Ok.ensures.others c.in-Ok.ensures.planned event name ends
    (c.in-Ok.ensures.counted.stays (λ e. absurd cc))
    c.write.new.self c.accept_commit.new.parts c.in-Ok-write.field-0 c.in-Ok-write.ensures (record {
      pool = c.accept_commit.ensures.pool;
      form = c.accept_commit.ensures.form;
      catalog = c.accept_commit.ensures.catalog;
      counts = c.accept_commit.ensures.counts;
      partials = c.accept_commit.ensures.partials;
      ends = c.accept_commit.ensures.ends;
      journal = c.accept_commit.ensures.journal;
      views = c.accept_commit.ensures.views;
      halted = c.accept_commit.ensures.halted;
    })

-- ---- the table and the partial that are called for

pub returns-in-Err-clause-tables : goal.returns-in-Err-clause-tables
returns-in-Err-clause-tables g c =
    λ name found. heeds_not_planned (λ next. IsFree next c.args.line.number) c.args.parts.now name c.args.at found c.requires.within
    c.plan_commit.new.parts c.in-Err.refusal c.in-Err.ensures.quiet c.in-Err.ensures.others c.in-Err.ensures.tables

pub returns-in-Err-write-clause-tables : goal.returns-in-Err-write-clause-tables
returns-in-Err-write-clause-tables g c =
    λ name found. heeds_not_written (λ next. IsFree next c.args.line.number) c.args.parts.now name c.args.at found c.requires.within
    c.in-Ok.ensures.tables c.plan_commit.new.parts c.write.new.self c.in-Ok.plan.changes c.in-Err-write.refusal c.in-Err-write.ensures

pub returns-clause-tables : goal.returns-clause-tables
returns-clause-tables g c =
    λ name found. heeds_committed (λ next. IsFree next c.args.line.number) c.args.parts.now name c.args.at found c.requires.within
    c.in-Ok.ensures.tables _ c.accept_commit.new.parts
