-- What was read and built is the plan.
use Rattle.std.proofs.Common.{List, sym, subst, ◌∙◌}
use Rattle.journal_view.specs.View.{told}
use Rattle.backup_rules.specs.declared.lines.Line.{Line}
use Rattle.backup_views.specs.Faults.{SaysOneDamaged}
use Rattle.store_deletions.specs.BuildLaws.{index_there}
use Rattle.store_deletions.specs.FaultsLaws.{part_damaged, plan_fault}
use Rattle.store_deletions.specs.Planned.{IsPlanFault}
use Rattle.store_deletions.specs.PlanLaws.{planned_by, same_window, as_many}
use Rattle.store_deletions.proofs.Calling.{called_by}
use Rattle.store_deletions.proofs.planning.plan_of.Goals as goal

pub returns-in-Err-read_tables-clause-refused : goal.returns-in-Err-read_tables-clause-refused
returns-in-Err-read_tables-clause-refused g c =
    let here = index_there c.args.catalog.now.hosts c.hosts.result.now c.args.host c.index-hosts-host.result c.requires.within
    c.hosts.ensures.hosts c.index-hosts-host.is in
    subst (IsPlanFault (told c.args.journal.now) c.args.catalog.now c.args.host) (sym c.refusal_of_view.ensures.value)
    (plan_fault (told c.args.journal.now) c.args.catalog.now c.args.host c.host.result c.index-hosts-host.result c.in-Err-read_tables.fault
    here (c.host.ensures ∙ (c.hosts.ensures.are.each c.args.host c.index-hosts-host.result here).number)
    (subst (λ (ls : List Line). SaysOneDamaged (told c.args.journal.now) c.host.result ls c.in-Err-read_tables.fault)
    (c.lines-lines.ensures ∙ c.lines.ensures.lines)
    (part_damaged (told c.args.journal.now) c.host.result c.in-Ok.window.first c.in-Ok.window.end c.lines-lines.result.now
    c.in-Err-read_tables.fault c.in-Err-read_tables.ensures.damaged)))

pub build-requires-clause-window : goal.build-requires-clause-window
build-requires-clause-window g c =
    same_window c.args.catalog.now c.args.host c.in-Ok.window.first c.in-Ok.window.end c.args.numbers.now c.index-hosts-host.result
    c.lines-lines.result.now
    (index_there c.args.catalog.now.hosts c.hosts.result.now c.args.host c.index-hosts-host.result c.requires.within c.hosts.ensures.hosts
    c.index-hosts-host.is)
    (c.lines-lines.ensures ∙ c.lines.ensures.lines) c.in-Ok.ensures.window

pub build-requires-clause-each : goal.build-requires-clause-each
build-requires-clause-each g c =
    as_many c.args.catalog.now c.args.host c.in-Ok.window.first c.in-Ok.window.end c.index-hosts-host.result c.lines-lines.result.now
    c.in-Ok-read_tables.tables.items c.as_slice.result.now
    (index_there c.args.catalog.now.hosts c.hosts.result.now c.args.host c.index-hosts-host.result c.requires.within c.hosts.ensures.hosts
    c.index-hosts-host.is)
    (c.lines-lines.ensures ∙ c.lines.ensures.lines) c.as_slice.ensures.value c.in-Ok-read_tables.ensures.each

pub returns-in-Ok-build-clause-planned : goal.returns-in-Ok-build-clause-planned
returns-in-Ok-build-clause-planned g c =
    planned_by c.args.catalog.now (told c.args.journal.now) c.args.counts.now c.args.host c.host.result c.in-Ok.window.first
    c.in-Ok.window.end c.args.numbers.now c.in-Ok-read_tables.tables.items c.as_slice.result.now c.index-hosts-host.result
    c.lines-lines.result.now c.in-Ok-build.plan c.hosts.ensures.are
    (index_there c.args.catalog.now.hosts c.hosts.result.now c.args.host c.index-hosts-host.result c.requires.within c.hosts.ensures.hosts
    c.index-hosts-host.is)
    c.host.ensures (c.lines-lines.ensures ∙ c.lines.ensures.lines) c.as_slice.ensures.value c.in-Ok-read_tables.ensures.one
    c.in-Ok-build.ensures

pub returns-in-Ok-build-clause-called : goal.returns-in-Ok-build-clause-called
returns-in-Ok-build-clause-called g c =
    called_by (told c.args.journal.now) c.args.catalog.now c.args.host c.host.result c.in-Ok.window.first c.in-Ok.window.end
    c.args.numbers.now c.in-Ok-read_tables.tables.items c.index-hosts-host.result c.lines-lines.result.now c.hosts.ensures.are
    (index_there c.args.catalog.now.hosts c.hosts.result.now c.args.host c.index-hosts-host.result c.requires.within c.hosts.ensures.hosts
    c.index-hosts-host.is)
    c.host.ensures (c.lines-lines.ensures ∙ c.lines.ensures.lines) c.in-Ok.ensures.window c.in-Ok-read_tables.ensures.there
