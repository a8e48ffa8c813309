use Rattle.std.proofs.Common.{◌∙◌}
use Rattle.office_catalog.proofs.LinePlaces.{kept_is}
use Rattle.office_catalog.proofs.proposals.keep_line.Goals as goal

pub returns : goal.returns
returns c = c.set.ensures ∙ kept_is _ _ _ c.args.keep _ c.lines.ensures c.requires
