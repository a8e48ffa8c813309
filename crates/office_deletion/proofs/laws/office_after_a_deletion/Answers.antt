use Rattle.office_deletion.specs.OfficeLaws.{deletion_stands}
use Rattle.office_deletion.proofs.laws.office_after_a_deletion.Goals as goal

pub returns : goal.returns
returns c = deletion_stands
