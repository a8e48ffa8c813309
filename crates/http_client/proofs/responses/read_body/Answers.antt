use Rattle.http_client.proofs.ResponseLemmas.{CutsBody-ended}
use Rattle.http_client.proofs.responses.read_body.Goals as goal

pub returns-in-Err-Ended-clause-read : goal.returns-in-Err-Ended-clause-read
returns-in-Err-Ended-clause-read g c =
    CutsBody-ended _ _ _ c.in-Err-Ended.ensures.fewer (c.in-Err-Ended.ensures.ended c.in-Err-Ended.field-0-is)
