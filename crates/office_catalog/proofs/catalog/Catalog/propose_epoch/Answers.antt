use Rattle.office_catalog.proofs.Leading.{proposes_epoch}
use Rattle.office_catalog.proofs.catalog.Catalog.propose_epoch.Goals as goal

pub returns-clause-proposes : goal.returns-clause-proposes
returns-clause-proposes c =
    proposes_epoch c.args.self.now c.epoch-epoch.result c.in_ok-names.names c.in_ok-change.change c.in_ok-changes.changes c.epoch-epoch.ensures c.in_ok-names.ensures c.in_ok-changes.ensures
    c.in_ok-change.ensures.file c.in_ok-change.ensures.holds
