use Rattle.std.proofs.Common.{◌≡◌, true}
use Rattle.tree_changes.specs.ResolvedLaws.{removals-resolved, changes-resolved}
use Rattle.tree_changes.proofs.laws.resolved_law.Goals as goal

pub returns-clause-removals : goal.returns-clause-removals
returns-clause-removals c = removals-resolved

pub returns-clause-changes : goal.returns-clause-changes
returns-clause-changes c = λ given contents one. changes-resolved (λ id. given id ≡ true) contents one
