use Rattle.peer_talk.proofs.SayingLaws.{responses-readable}
use Rattle.peer_talk.proofs.laws.responses_are_readable.Goals as goal

pub returns : goal.returns
returns c = responses-readable
