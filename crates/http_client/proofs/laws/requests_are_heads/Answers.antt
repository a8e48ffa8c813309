use Rattle.http_client.proofs.AskLaws.{request-asks}
use Rattle.http_client.proofs.laws.requests_are_heads.Goals as goal

pub returns : goal.returns
returns c = request-asks
