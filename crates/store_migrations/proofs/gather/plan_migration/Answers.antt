-- The index is that of the host at its place in the catalog.
use Rattle.std.proofs.Common.{subst, sym, ◌∙◌}
use Rattle.journal_view.specs.View.{told}
use Rattle.store_migrations.specs.Migrated.{IsPlanFault}
use Rattle.store_migrations.specs.PlanLaws.{planned_of, changes_planned, plan_fault}
use Rattle.store_migrations.proofs.Lookups.{index_there}
use Rattle.store_migrations.proofs.gather.plan_migration.Goals as goal

pub returns-in-Ok-clause-planned : goal.returns-in-Ok-clause-planned
returns-in-Ok-clause-planned g c =
    let here = index_there c.args.catalog.now.hosts c.hosts.result.now c.args.host c.index-hosts-host.result c.requires.within
    c.hosts.ensures.hosts c.index-hosts-host.is in
    planned_of (told c.args.journal.now) c.args.catalog.now.hosts c.args.host c.host.result c.index-hosts-host.result c.lines-2.result.now
    c.in-Ok.changes here (c.host.ensures ∙ (c.hosts.ensures.are.each c.args.host c.index-hosts-host.result here).number)
    (c.lines-2.ensures ∙ c.lines.ensures.lines) c.in-Ok.ensures.planned

pub returns-in-Ok-clause-are : goal.returns-in-Ok-clause-are
returns-in-Ok-clause-are g c =
    let here = index_there c.args.catalog.now.hosts c.hosts.result.now c.args.host c.index-hosts-host.result c.requires.within
    c.hosts.ensures.hosts c.index-hosts-host.is in
    changes_planned (told c.args.journal.now) c.args.catalog.now.hosts c.args.host c.index-hosts-host.result c.in-Ok.changes c.hosts.ensures.are here
    (planned_of (told c.args.journal.now) c.args.catalog.now.hosts c.args.host c.host.result c.index-hosts-host.result c.lines-2.result.now
    c.in-Ok.changes here (c.host.ensures ∙ (c.hosts.ensures.are.each c.args.host c.index-hosts-host.result here).number)
    (c.lines-2.ensures ∙ c.lines.ensures.lines) c.in-Ok.ensures.planned c.index-hosts-host.result here)

pub returns-in-Err-clause-refused : goal.returns-in-Err-clause-refused
returns-in-Err-clause-refused g c =
    let here = index_there c.args.catalog.now.hosts c.hosts.result.now c.args.host c.index-hosts-host.result c.requires.within
    c.hosts.ensures.hosts c.index-hosts-host.is in
    subst (IsPlanFault (told c.args.journal.now) c.args.catalog.now c.args.host) (sym c.refusal_of_view.ensures.value)
    (plan_fault (told c.args.journal.now) c.args.catalog.now c.args.host c.host.result c.index-hosts-host.result c.lines-2.result.now
    c.in-Err.fault here (c.host.ensures ∙ (c.hosts.ensures.are.each c.args.host c.index-hosts-host.result here).number)
    (c.lines-2.ensures ∙ c.lines.ensures.lines) c.in-Err.ensures.damaged)
