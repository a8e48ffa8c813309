use Rattle.std.proofs.Common.{◌≡◌, true}
use Rattle.stored_trees.specs.ResolvedLaws.{same_rows}
use Rattle.stored_trees.proofs.laws.rows_law.Goals as goal

pub returns : goal.returns
returns c = λ given contents one. same_rows (λ id. given id ≡ true) contents one
