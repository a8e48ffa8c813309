use Rattle.browse_http.proofs.StageLemmas.{stop_counted}
use Rattle.browse_http.proofs.stages.drop_rest.Goals as goal

pub returns-in-Err-clause-counted : goal.returns-in-Err-clause-counted
returns-in-Err-clause-counted g c = stop_counted _ _ _ _ c.in-Err.stop c.in-Err.ensures.counted
