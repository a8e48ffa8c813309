use Rattle.migrate_work.proofs.WorkLaws.{carried-next, stopped-at}
use Rattle.migrate_work.proofs.work.carry_out.Goals as goal

pub loop-event-preserved : goal.loop-event-preserved
loop-event-preserved g c = record {
  carried = carried-next _ g.met.P.Port.joined _ _ _ c.args.events.now c.loop-event.event-index c.event-item.result _ c.loop-event-test.true
      c.event-item.is c.loop-event.invariant.carried c.in-Ok.ensures.moved;
}

pub returns-in-Err-clause-err : goal.returns-in-Err-clause-err
returns-in-Err-clause-err g c =
    stopped-at _ g.met.P.Port.joined _ _ _ c.args.events.now c.loop-event.event-index c.event-item.result _ c.loop-event-test.true
    c.event-item.is c.loop-event.invariant.carried c.in-Err.ensures.moved
