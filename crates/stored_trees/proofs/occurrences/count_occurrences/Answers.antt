use Rattle.std.proofs.Common.{arith, ◌≡◌, true, ◌∙◌}
use Rattle.std.proofs.lemmas.Grind.{common_steps}
use Rattle.stored_trees.specs.OccurrenceLaws.{occurrences-resolved}
use Rattle.stored_trees.proofs.occurrences.count_occurrences.Goals as goal

pub returns-clause-value : goal.returns-clause-value
returns-clause-value c = grind (arith, common_steps)

pub returns-clause-resolved : goal.returns-clause-resolved
returns-clause-resolved c = λ given told one h g.
    returns-clause-value c ∙ occurrences-resolved (λ id. given id ≡ true) told one c.args.id.now c.args.rows.now h g
