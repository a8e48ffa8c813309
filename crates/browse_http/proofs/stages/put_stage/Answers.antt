use Rattle.std.proofs.Common.{refl}
use Rattle.browse_http.proofs.StageLemmas.{MakesCalls-put, MakesCalls-refused}
use Rattle.browse_http.proofs.stages.put_stage.Goals as goal

pub returns-in-Ok : goal.returns-in-Ok
returns-in-Ok g c =
    MakesCalls-put c.args.put c.args.stage _ _ _ _ c.in-Ok.answer c.staged_event-event.ensures refl (rw c.staged_event-event.ensures at c.in-Ok.ensures.moved)
    (rw c.staged_event-event.ensures at c.in-Ok.ensures.in_kind)

pub returns-in-Err : goal.returns-in-Err
returns-in-Err g c =
    MakesCalls-refused c.args.put c.args.stage _ g.met.P.Port.joined _ _ _ _ c.in-Err.refusal c.staged_event-event.ensures refl
    (rw c.staged_event-event.ensures at c.in-Err.ensures.moved) (rw c.put_drops.ensures at c.drop_if.ensures)
