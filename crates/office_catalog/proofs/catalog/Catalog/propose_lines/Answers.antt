use Rattle.std.proofs.Common.{sym, refl, subst, ℕ}
use Rattle.backup_index.specs.Index.{Index}
use Rattle.backup_index.specs.Lines.{IsSound}
use Rattle.office_catalog.specs.Known.{given_lines}
use Rattle.office_catalog.proofs.Leading.{found_by, proposes_alike, same_lines, found_there}
use Rattle.office_catalog.proofs.catalog.Catalog.propose_lines.Goals as goal

pub propose_next-requires-clause-sound : goal.propose_next-requires-clause-sound
propose_next-requires-clause-sound c =
    let found = found_by c.args.self.now c.args.host c.hosts.result.now c.index-hosts-host.result c.requires.host c.hosts.ensures.hosts c.index-hosts-host.is in
    subst (λ (n : ℕ). IsSound n c.args.lines) (sym c.next-next.ensures) (c.requires.sound c.index-hosts-host.result (found_there _ _ _ _ found))

pub returns-clause-proposes : goal.returns-clause-proposes
returns-clause-proposes c =
    let found = found_by c.args.self.now c.args.host c.hosts.result.now c.index-hosts-host.result c.requires.host c.hosts.ensures.hosts c.index-hosts-host.is in
    proposes_alike (given_lines c.next-next.result c.args.lines) (λ (index : Index). given_lines index.next c.args.lines index) c.args.self.now c.args.host c.hosts.result.now c.index-hosts-host.result _ found
    (same_lines c.index-hosts-host.result _ _ _ _ c.next-next.ensures refl) c.propose_next.ensures.proposes
