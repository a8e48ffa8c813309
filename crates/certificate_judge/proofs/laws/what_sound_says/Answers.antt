use Rattle.certificate_judge.specs.VerdictLaws.{tells_from_sound}
use Rattle.certificate_judge.proofs.laws.what_sound_says.Goals as goal

pub returns : goal.returns
returns c = tells_from_sound
