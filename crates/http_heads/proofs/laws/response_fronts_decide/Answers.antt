use Rattle.http_heads.proofs.ResponseLemmas.{response_head-append, never_responds-append}
use Rattle.http_heads.proofs.laws.response_fronts_decide.Goals as goal

pub returns-clause-whole : goal.returns-clause-whole
returns-clause-whole c = response_head-append

pub returns-clause-foreign : goal.returns-clause-foreign
returns-clause-foreign c = never_responds-append
