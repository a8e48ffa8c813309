use Rattle.std.proofs.Common.{◌≡◌}
use Rattle.http_wire.specs.Wires.{left_of, written_of, faults_of}
use Rattle.http_bodies.specs.Bodies.{most_left}
use Rattle.browse_http.specs.Scripts.{pieces_script}
use Rattle.browse_http.specs.Staging.{LeadsBody}
use Rattle.browse_http.proofs.stages.put_pieces.Given as goal

abbrev pub invariant-loop-piece : goal.invariant-loop-piece
invariant-loop-piece g l = record {
  calls : LeadsBody (pieces_script l.put l.stage) g.P.Port.moves l.initial.port l.port l.initial.body l.body (left_of l.initial.wire) (left_of l.wire);
  written : written_of l.wire ≡ written_of l.initial.wire;
  same : faults_of l.wire ≡ faults_of l.initial.wire;
}

abbrev pub decreases-loop-piece : goal.decreases-loop-piece
decreases-loop-piece g l = most_left l.body
