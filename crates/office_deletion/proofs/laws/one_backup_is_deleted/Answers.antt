use Rattle.office_deletion.specs.DeletionLaws.{deleted_left}
use Rattle.office_deletion.proofs.laws.one_backup_is_deleted.Goals as goal

pub returns : goal.returns
returns c = deleted_left
