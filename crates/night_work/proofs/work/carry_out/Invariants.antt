use Rattle.std.proofs.Common.{◌*◌, ◌^◌, take}
use Rattle.night_work.specs.Steps.{Carried, AreAtMost}
use Rattle.night_work.proofs.work.carry_out.Given as goal

abbrev pub invariant-loop-event : goal.invariant-loop-event
invariant-loop-event g l = record {
  carried : Carried g.P.Port.moves l.initial.port l.port l.day (take l.event-index l.events) l.night;
  small : AreAtMost (l.event-index * 2 ^ 64) l.night;
}
