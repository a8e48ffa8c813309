use Rattle.event_texts.proofs.ReadBack.{requests-read-back}
use Rattle.event_texts.proofs.laws.requests_read_back.Goals as goal

pub returns : goal.returns
returns c = requests-read-back
