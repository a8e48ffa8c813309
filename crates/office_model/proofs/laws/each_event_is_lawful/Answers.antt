use Rattle.office_model.specs.laws.StepLaws.{lawful}
use Rattle.office_model.proofs.laws.each_event_is_lawful.Goals as goal

pub returns : goal.returns
returns c = lawful
