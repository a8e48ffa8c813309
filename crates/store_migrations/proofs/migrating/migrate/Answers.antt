-- The tables are read, and a commit is made behind that, if one of them is of the first layout.
use Rattle.std.proofs.Common.{refl, sym, ◌∙◌}
use Rattle.office_model.specs.declared.answer.Answer.TheVariants.{Done}
use Rattle.office_model.specs.declared.event.Event.TheVariants.{Migrate}
use Rattle.store_parts.specs.RefusalLaws.{runs_broken_by}
use Rattle.store_parts.specs.RefusedLaws.{runs_no_host}
use Rattle.store_migrations.specs.RunLaws.{no_host_migrate, runs_not_planned, runs_nothing, runs_not_written, runs_migrated}
use Rattle.store_migrations.specs.CalledLaws.{said_broken, said_damaged, said_unwritten, said_nothing, said_migrated}
use Rattle.store_migrations.proofs.Lookups.{within_there, none_there, some_there}
use Rattle.store_migrations.proofs.migrating.migrate.Goals as goal

pub returns-in_err-at-clause-runs : goal.returns-in_err-at-clause-runs
returns-in_err-at-clause-runs g c =
    runs_broken_by _ _ _ _ _ _ c.from_residual.ensures.1 c.in_err-at.ensures.rule
    (runs_no_host c.args.parts.now (Migrate c.args.host.now) c.args.host.now c.in_err-at.ensures.none
    (λ office names e. no_host_migrate c.args.host.now office names e))

pub returns-in_err-at-clause-tables : goal.returns-in_err-at-clause-tables
returns-in_err-at-clause-tables g c =
    said_broken c.args.parts.now c.args.parts.now c.args.host.now c.from_residual.result _ c.from_residual.ensures.1

pub returns-in-Err-clause-runs : goal.returns-in-Err-clause-runs
returns-in-Err-clause-runs g c =
    let index = within_there c.args.parts.now.catalog.hosts c.in_ok-at.at c.in_ok-at.ensures.within in
    runs_not_planned c.args.parts.now c.args.host.now c.in_ok-at.at index.0 (record { named = c.in_ok-at.ensures.found; here = index.1 })
    (record c.args.parts.now { journal = c.plan_migration.new.journal }) c.in-Err.refusal
    (record { quiet = c.in-Err.ensures.quiet; others = refl }) c.in-Err.ensures.refused c.in-Err.ensures.counted

pub returns-in-Err-clause-tables : goal.returns-in-Err-clause-tables
returns-in-Err-clause-tables g c =
    let index = within_there c.args.parts.now.catalog.hosts c.in_ok-at.at c.in_ok-at.ensures.within in
    said_damaged c.args.parts.now c.args.host.now c.in_ok-at.at index.0 (record { named = c.in_ok-at.ensures.found; here = index.1 })
    (record c.args.parts.now { journal = c.plan_migration.new.journal }) c.in-Err.refusal
    (record { quiet = c.in-Err.ensures.quiet; others = refl }) c.in-Err.ensures.refused

pub returns-then-is_empty-clause-runs : goal.returns-then-is_empty-clause-runs
returns-then-is_empty-clause-runs g c =
    let index = within_there c.args.parts.now.catalog.hosts c.in_ok-at.at c.in_ok-at.ensures.within in
    runs_nothing c.args.parts.now c.args.host.now c.in_ok-at.at index.0 (record { named = c.in_ok-at.ensures.found; here = index.1 })
    c.in-Ok.changes (c.in-Ok.ensures.planned index.0 index.1) (record c.args.parts.now { journal = c.plan_migration.new.journal })
    (record { quiet = c.in-Ok.ensures.quiet; others = refl })
    (sym c.as_slice.ensures ∙ none_there c.as_slice.result.now (sym c.is_empty.ensures ∙ c.if-is_empty.true))
    (c.in-Ok.ensures.counted.stays (λ e. absurd cc))

pub returns-then-is_empty-clause-tables : goal.returns-then-is_empty-clause-tables
returns-then-is_empty-clause-tables g c =
    let index = within_there c.args.parts.now.catalog.hosts c.in_ok-at.at c.in_ok-at.ensures.within in
    said_nothing c.args.parts.now c.args.host.now c.in_ok-at.at index.0 (record { named = c.in_ok-at.ensures.found; here = index.1 })
    c.in-Ok.changes (c.in-Ok.ensures.planned index.0 index.1) Done (record c.args.parts.now { journal = c.plan_migration.new.journal })
    (record { quiet = c.in-Ok.ensures.quiet; others = refl })
    (sym c.as_slice.ensures ∙ none_there c.as_slice.result.now (sym c.is_empty.ensures ∙ c.if-is_empty.true))

pub returns-in-Ok-write-clause-runs : goal.returns-in-Ok-write-clause-runs
returns-in-Ok-write-clause-runs g c =
    let index = within_there c.args.parts.now.catalog.hosts c.in_ok-at.at c.in_ok-at.ensures.within in
    runs_migrated c.args.parts.now (record c.args.parts.now { journal = c.plan_migration.new.journal }) c.args.host.now c.in_ok-at.at
    index.0 (record { named = c.in_ok-at.ensures.found; here = index.1 }) c.in-Ok.changes (c.in-Ok.ensures.planned index.0 index.1)
    (record { quiet = c.in-Ok.ensures.quiet; others = refl }) (c.in-Ok.ensures.counted.stays (λ e. absurd cc)) c.in-Ok.ensures.are
    c.write.new.self c.in-Ok-write.field-0 c.in-Ok-write.ensures

pub returns-in-Ok-write-clause-tables : goal.returns-in-Ok-write-clause-tables
returns-in-Ok-write-clause-tables g c =
    let index = within_there c.args.parts.now.catalog.hosts c.in_ok-at.at c.in_ok-at.ensures.within in
    said_migrated c.args.parts.now c.args.host.now c.in_ok-at.at index.0 (record { named = c.in_ok-at.ensures.found; here = index.1 })
    c.in-Ok.changes (c.in-Ok.ensures.planned index.0 index.1) Done (record c.args.parts.now { journal = c.plan_migration.new.journal })
    c.write.new.self c.in-Ok-write.field-0 (record { quiet = c.in-Ok.ensures.quiet; others = refl }) c.in-Ok-write.ensures
    (λ none. some_there c.as_slice.result.now (sym c.is_empty.ensures ∙ c.if-is_empty.false) (c.as_slice.ensures ∙ none))

pub returns-clause-runs : goal.returns-clause-runs
returns-clause-runs g c =
    let index = within_there c.args.parts.now.catalog.hosts c.in_ok-at.at c.in_ok-at.ensures.within in
    runs_not_written c.args.parts.now (record c.args.parts.now { journal = c.plan_migration.new.journal }) c.args.host.now c.in_ok-at.at
    index.0 (record { named = c.in_ok-at.ensures.found; here = index.1 }) c.in-Ok.changes (c.in-Ok.ensures.planned index.0 index.1)
    (record { quiet = c.in-Ok.ensures.quiet; others = refl }) (c.in-Ok.ensures.counted.stays (λ e. absurd cc)) c.write.new.self
    c.in-Err-write.refusal c.in-Err-write.ensures

pub returns-clause-tables : goal.returns-clause-tables
returns-clause-tables g c =
    said_unwritten c.args.parts.now c.write.new.self c.args.host.now c.in-Err-write.refusal c.in-Err-write.ensures.kind
