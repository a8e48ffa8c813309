use Rattle.office_pool.specs.AddedLaws.{listed_with_added}
use Rattle.office_pool.proofs.laws.added_names_are_listed.Goals as goal

pub returns : goal.returns
returns c = listed_with_added
