use Rattle.std.proofs.Common.{◌≡◌, true}
use Rattle.stored_trees.specs.ResolvedLaws.{reverse-resolved}
use Rattle.stored_trees.proofs.laws.reverse_law.Goals as goal

pub returns : goal.returns
returns c = λ given contents one. reverse-resolved (λ id. given id ≡ true) contents one
