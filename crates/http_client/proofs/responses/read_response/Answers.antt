use Rattle.http_client.proofs.ResponseLemmas.{both-read}
use Rattle.http_client.proofs.responses.read_response.Goals as goal

pub returns-in-Whole-clause-read : goal.returns-in-Whole-clause-read
returns-in-Whole-clause-read g c = both-read _ _ _ _ c.in-Whole.parts _ c.in-Whole.ensures.read c.read_body.ensures.read
