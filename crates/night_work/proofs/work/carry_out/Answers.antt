use Rattle.std.proofs.Common.{◌*◌, ◌^◌}
use Rattle.night_work.proofs.ScriptLaws.{Carried-next, Stopped-at, AreAtMost-next}
use Rattle.night_work.proofs.work.carry_out.Goals as goal

pub loop-event-preserved : goal.loop-event-preserved
loop-event-preserved g c = record {
  carried = Carried-next _ g.met.P.Port.joined _ _ _ _ c.args.events.now c.loop-event.event-index c.event-item.result _ _ _
      c.loop-event-test.true c.event-item.is c.loop-event.invariant.carried c.in-Ok.ensures.moved c.add.ensures.value;
  small = AreAtMost-next c.loop-event.event-index (2 ^ 64) c.add.new.night
      (c.add.ensures.small (c.loop-event.event-index * 2 ^ 64) c.loop-event.invariant.small);
}

pub returns-in-Err-clause-err : goal.returns-in-Err-clause-err
returns-in-Err-clause-err g c =
    Stopped-at _ g.met.P.Port.joined _ _ _ _ c.args.events.now c.loop-event.event-index c.event-item.result _ _ c.loop-event-test.true
    c.event-item.is c.loop-event.invariant.carried c.in-Err.ensures.moved
