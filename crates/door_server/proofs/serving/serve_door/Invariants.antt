use Rattle.std.proofs.Common.{◌≡◌}
use Rattle.door_server.specs.Serving.{ServesDoor}
use Rattle.door_server.proofs.serving.serve_door.Given as goal

abbrev pub invariant-loop-end : goal.invariant-loop-end
invariant-loop-end g l = record {
  so_far : ServesDoor l.interface.defaults g.P.Port.moves l.initial.port l.port g.D.Link.Faults (g.D.Door.coming l.initial.door)
      (g.D.Door.coming l.door) (g.D.Door.given_back l.initial.door) (g.D.Door.given_back l.door) (g.C.Clock.moments l.initial.clock)
      (g.C.Clock.moments l.clock);
  same : g.D.Door.faults l.door ≡ g.D.Door.faults l.initial.door;
}

abbrev pub decreases-loop-end : goal.decreases-loop-end
decreases-loop-end g l = g.D.Door.most l.door
