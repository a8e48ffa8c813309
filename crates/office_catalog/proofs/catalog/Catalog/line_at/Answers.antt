use Rattle.office_catalog.proofs.Keeping.{line_within}
use Rattle.office_catalog.proofs.catalog.Catalog.line_at.Goals as goal

pub returns-clause-within : goal.returns-clause-within
returns-clause-within c =
    line_within c.self.inside.hosts.items c.args.host c.args.self.now c.self.inside.epoch _ _ _ c.line_place.result c.self.view_is c.requires c.index.ensures c.lines.ensures.lines c.lines-2.ensures c.line_place.ensures.within
