use Rattle.event_texts.proofs.PlainLemmas.{requests-are-plain}
use Rattle.event_texts.proofs.laws.requests_are_plain.Goals as goal

pub returns : goal.returns
returns c = requests-are-plain
