use Rattle.peer_calls.proofs.CodecLaws.{codecs-faithful}
use Rattle.peer_calls.proofs.laws.codecs_are_faithful.Goals as goal

pub returns : goal.returns
returns c = codecs-faithful
