use Rattle.stored_trees.specs.ResolvedLaws.{without-resolved}
use Rattle.stored_trees.proofs.laws.remove_law.Goals as goal

pub returns : goal.returns
returns c = without-resolved
