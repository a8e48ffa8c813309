use Rattle.std.proofs.Common.{◌≡◌, true}
use Rattle.stored_trees.specs.ResolvedLaws.{resolved-kept, AreTold-kept}
use Rattle.stored_trees.proofs.laws.kept_law.Goals as goal

pub returns-clause-tree : goal.returns-clause-tree
returns-clause-tree c = λ given before now same. resolved-kept (λ id. given id ≡ true) before now same

pub returns-clause-told : goal.returns-clause-told
returns-clause-told c = λ given other before now same. AreTold-kept (λ id. given id ≡ true) (λ id. other id ≡ true) before now same
