use Rattle.push_texts.proofs.PlainLemmas.{pushes-are-plain}
use Rattle.push_texts.proofs.laws.pushes_are_plain.Goals as goal

pub returns : goal.returns
returns c = pushes-are-plain
