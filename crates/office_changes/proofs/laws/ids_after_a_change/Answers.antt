use Rattle.office_changes.specs.IdLaws.{ids_moved}
use Rattle.office_changes.proofs.laws.ids_after_a_change.Goals as goal

pub returns : goal.returns
returns c = ids_moved
