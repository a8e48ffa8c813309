use Rattle.std.proofs.Common.{◌∙◌}
use Rattle.office_catalog.proofs.LinePlaces.{last_is}
use Rattle.office_catalog.proofs.proposals.fill_last.Goals as goal

pub returns : goal.returns
returns c = c.set.ensures ∙ last_is _ _ _ c.args.filled _ c.lines.ensures c.len-len.ensures c.if-len-eq0.false
