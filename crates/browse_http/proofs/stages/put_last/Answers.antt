use Rattle.std.proofs.Common.{rules}
use Rattle.browse_http.proofs.StageLemmas.{MakesCalls-rest}
use Rattle.browse_http.proofs.stages.put_last.Goals as goal

pub returns-in-Ok : goal.returns-in-Ok
returns-in-Ok g c =
    MakesCalls-rest _ _ _ _ g.met.P.Port.joined _ _ _ _ _ (search rules) c.in-Ok.ensures.ok.1 c.put_stage-in-Ok.ensures
