use Rattle.stored_trees.specs.ResolvedLaws.{view-resolved}
use Rattle.stored_trees.proofs.laws.view_law.Goals as goal

pub returns : goal.returns
returns c = view-resolved
