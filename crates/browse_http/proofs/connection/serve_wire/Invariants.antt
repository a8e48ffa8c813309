use Rattle.std.proofs.Common.{◌≡◌}
use Rattle.http_wire.specs.Wires.{left_of, written_of, faults_of}
use Rattle.browse_http.specs.Serving.{SoFar}
use Rattle.browse_http.proofs.connection.serve_wire.Given as goal

abbrev pub invariant-loop-index : goal.invariant-loop-index
invariant-loop-index g l = record {
  so_far : SoFar l.interface.defaults g.P.Port.moves l.initial.port l.port (left_of l.initial.wire) (left_of l.wire)
      (written_of l.initial.wire) (written_of l.wire) (g.C.Clock.moments l.initial.clock) (g.C.Clock.moments l.clock) l.index;
  same : faults_of l.wire ≡ faults_of l.initial.wire;
}
