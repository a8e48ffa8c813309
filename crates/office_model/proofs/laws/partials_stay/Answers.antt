use Rattle.office_model.specs.laws.PartialsLaws.{partials_stay}
use Rattle.office_model.proofs.laws.partials_stay.Goals as goal

pub returns : goal.returns
returns c = partials_stay
