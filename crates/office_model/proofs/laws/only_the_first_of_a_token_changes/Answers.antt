use Rattle.office_model.specs.laws.FirstLaws.{first_alone}
use Rattle.office_model.proofs.laws.only_the_first_of_a_token_changes.Goals as goal

pub returns : goal.returns
returns c = first_alone
