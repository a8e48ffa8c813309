use Rattle.office_pool.specs.FitLaws.{given_one, given_digest, given_size}
use Rattle.office_pool.proofs.laws.given_names_are_told.Goals as goal

pub returns-clause-one : goal.returns-clause-one
returns-clause-one c = given_one

pub returns-clause-digest : goal.returns-clause-digest
returns-clause-digest c = given_digest

pub returns-clause-size : goal.returns-clause-size
returns-clause-size c = given_size
