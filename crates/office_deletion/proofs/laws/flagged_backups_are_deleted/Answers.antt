use Rattle.office_model.specs.Parts.{lines_of}
use Rattle.office_deletion.specs.ExpiryLaws.{flagged_count, expired_left}
use Rattle.office_deletion.proofs.laws.flagged_backups_are_deleted.Goals as goal

pub returns-clause-left : goal.returns-clause-left
returns-clause-left c = expired_left

pub returns-clause-counted : goal.returns-clause-counted
returns-clause-counted c = λ flags backups. flagged_count flags (lines_of backups)
