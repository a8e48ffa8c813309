use Rattle.std.proofs.Common.{ap, ◌∙◌, is_some}
use Rattle.office_catalog.proofs.Naming.{some_named}
use Rattle.office_catalog.proofs.catalog.Catalog.has.Goals as goal

pub returns : goal.returns
returns c = c.is_some.ensures ∙ ap is_some c.host_at.ensures.value ∙ some_named _ c.args.name.now
