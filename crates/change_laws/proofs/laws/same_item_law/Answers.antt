use Rattle.change_laws.specs.SameItemLaws.{same_item, item_itself}
use Rattle.change_laws.proofs.laws.same_item_law.Goals as goal

pub returns-clause-same : goal.returns-clause-same
returns-clause-same c = same_item

pub returns-clause-itself : goal.returns-clause-itself
returns-clause-itself c = item_itself
