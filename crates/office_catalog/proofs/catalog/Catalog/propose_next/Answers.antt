use Rattle.std.proofs.Common.{refl, subst, ◌∙◌, List}
use Rattle.std.proofs.lemmas.List.{append-nil}
use Rattle.backup_rules.specs.declared.lines.Line.{Line}
use Rattle.backup_index.specs.Stored.{index_of_parts}
use Rattle.office_catalog.specs.Known.{given_lines}
use Rattle.office_catalog.specs.Held.{HoldsIndex}
use Rattle.office_catalog.proofs.Leading.{found_by, proposes_change}
use Rattle.office_catalog.proofs.catalog.Catalog.propose_next.Goals as goal

pub returns-clause-proposes : goal.returns-clause-proposes
returns-clause-proposes c =
    let found = found_by c.args.self.now c.args.host c.hosts.result.now c.index-hosts-host.result c.requires.host c.hosts.ensures.hosts c.index-hosts-host.is in
    let parts = index_of_parts c.parts-parts.result in
    proposes_change (given_lines c.args.next c.args.lines) c.args.self.now c.args.host c.hosts.result.now c.index-hosts-host.result parts _ c.in_ok-change.change c.in_ok-changes.changes
    (record { name = λ index. refl; host = λ index. refl }) c.hosts.ensures.are found c.parts-parts.ensures.parts c.requires.sound refl c.in_ok-changes.ensures c.in_ok-change.ensures.file
    (subst (λ (l : List Line). HoldsIndex (given_lines c.args.next l parts) c.in_ok-change.change.bytes) (append-nil _ ∙ c.lines-2.ensures) c.in_ok-change.ensures.holds)
