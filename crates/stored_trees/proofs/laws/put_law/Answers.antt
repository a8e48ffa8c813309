use Rattle.stored_trees.specs.ResolvedLaws.{with_node-resolved}
use Rattle.stored_trees.proofs.laws.put_law.Goals as goal

pub returns : goal.returns
returns c = with_node-resolved
