use Rattle.attr_tables.specs.Records.{is_dir, is_same_record}
use Rattle.attr_tables.specs.RecordLaws.{same_record}
use Rattle.change_laws.specs.BroughtLaws.{brought-is}
use Rattle.change_laws.specs.RemovalLaws.{removals-there}
use Rattle.change_laws.specs.PutLaws.{puts-allowed}
use Rattle.tree_changes.proofs.laws.rows_law.Goals as goal

pub returns-clause-brought : goal.returns-clause-brought
returns-clause-brought c = λ newer older new old. brought-is is_dir is_same_record same_record newer older new old

pub returns-clause-removals : goal.returns-clause-removals
returns-clause-removals c = λ newer older new old. removals-there is_dir is_same_record same_record newer older new old

pub returns-clause-puts : goal.returns-clause-puts
returns-clause-puts c = λ large newer older new old most small. puts-allowed is_dir is_same_record same_record large newer new older old most small
