use Rattle.office_model.specs.laws.StateLaws.{IsSoundState-step}
use Rattle.office_model.proofs.laws.a_step_keeps_a_sound_state.Goals as goal

pub returns : goal.returns
returns c = IsSoundState-step
