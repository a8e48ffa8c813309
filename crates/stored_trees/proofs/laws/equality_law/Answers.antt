use Rattle.std.proofs.Common.{◌≡◌, true}
use Rattle.stored_trees.specs.NodeLaws.{same_test}
use Rattle.stored_trees.proofs.laws.equality_law.Goals as goal

pub returns : goal.returns
returns c = λ given contents one. same_test (λ id. given id ≡ true) contents one
