use Rattle.office_model.specs.laws.KeptIdLaws.{ids_stay}
use Rattle.office_model.proofs.laws.a_pooled_content_keeps_its_name.Goals as goal

pub returns : goal.returns
returns c = ids_stay
