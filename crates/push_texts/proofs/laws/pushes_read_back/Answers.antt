use Rattle.push_texts.proofs.ReadBack.{pushes-read-back}
use Rattle.push_texts.proofs.laws.pushes_read_back.Goals as goal

pub returns : goal.returns
returns c = pushes-read-back
