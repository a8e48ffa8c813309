use Rattle.std.proofs.Common.{refl}
use Rattle.office_catalog.specs.Known.{given_contacts}
use Rattle.office_catalog.proofs.Leading.{found_by, proposes_change, found_there}
use Rattle.office_catalog.proofs.catalog.Catalog.propose_contacts.Goals as goal

pub returns-clause-proposes : goal.returns-clause-proposes
returns-clause-proposes c =
    let found = found_by c.args.self.now c.args.host c.hosts.result.now c.index-hosts-host.result c.requires c.hosts.ensures.hosts c.index-hosts-host.is in
    proposes_change (given_contacts c.args.good c.args.bad) c.args.self.now c.args.host c.hosts.result.now c.index-hosts-host.result _ _ c.in_ok-change.change c.in_ok-changes.changes
    (record { name = λ index. refl; host = λ index. refl }) c.hosts.ensures.are found c.parts-parts.ensures.parts
    (c.hosts.ensures.are.each c.args.host c.index-hosts-host.result (found_there _ _ _ _ found)).sound refl c.in_ok-changes.ensures c.in_ok-change.ensures.file c.in_ok-change.ensures.holds
