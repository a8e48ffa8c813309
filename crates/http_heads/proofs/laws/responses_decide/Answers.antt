use Rattle.http_heads.proofs.ResponseLemmas.{responses-decide}
use Rattle.http_heads.proofs.laws.responses_decide.Goals as goal

pub returns : goal.returns
returns c = responses-decide
