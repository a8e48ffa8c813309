use Rattle.http_heads.proofs.ResponseLemmas.{cut-truncated}
use Rattle.http_heads.proofs.laws.cut_responses_are_truncated.Goals as goal

pub returns : goal.returns
returns c = cut-truncated
