use Rattle.browse_http.proofs.StageLemmas.{CallsBody-opened}
use Rattle.browse_http.proofs.stages.put_in_stages.Goals as goal

pub returns-in-Ok-Stage-clause-calls : goal.returns-in-Ok-Stage-clause-calls
returns-in-Ok-Stage-clause-calls g c =
    CallsBody-opened _ c.in-Ok-Stage.stage _ g.met.P.Port.joined _ _ _ _ _ _ _ _ (rw c.in-Ok-Stage.field-0-is at c.in-Ok-Stage.ensures.moved)
    c.put_pieces.ensures.calls
