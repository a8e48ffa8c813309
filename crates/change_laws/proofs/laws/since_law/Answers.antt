use Rattle.attr_records.specs.Items.{is_dir}
use Rattle.change_laws.specs.SameItems.{is_same_item}
use Rattle.change_laws.specs.SameItemLaws.{same_item}
use Rattle.change_laws.specs.BroughtLaws.{brought-is}
use Rattle.change_laws.specs.RemovalLaws.{removals-there}
use Rattle.change_laws.specs.PutLaws.{puts-allowed}
use Rattle.change_laws.proofs.laws.since_law.Goals as goal

pub returns-clause-brought : goal.returns-clause-brought
returns-clause-brought c = λ newer older new old. brought-is is_dir is_same_item same_item newer older new old

pub returns-clause-removals : goal.returns-clause-removals
returns-clause-removals c = λ newer older new old. removals-there is_dir is_same_item same_item newer older new old

pub returns-clause-puts : goal.returns-clause-puts
returns-clause-puts c = λ large newer older new old most small. puts-allowed is_dir is_same_item same_item large newer new older old most small
