use Rattle.std.proofs.Common.{take}
use Rattle.migrate_work.specs.Ends.{Carried}
use Rattle.migrate_work.proofs.work.carry_out.Given as goal

abbrev pub invariant-loop-event : goal.invariant-loop-event
invariant-loop-event g l = record {
  carried : Carried g.P.Port.moves l.initial.port l.port (take l.event-index l.events);
}
