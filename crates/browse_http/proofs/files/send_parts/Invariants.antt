use Rattle.std.proofs.Common.{◌≡◌}
use Rattle.http_wire.specs.Wires.{left_of, written_of, faults_of}
use Rattle.browse_http.specs.Sending.{LeadsParts}
use Rattle.browse_http.proofs.files.send_parts.Given as goal

abbrev pub invariant-loop-left : goal.invariant-loop-left
invariant-loop-left g l = record {
  leads : LeadsParts g.P.Port.moves l.initial.port l.port (written_of l.initial.wire) (written_of l.wire) l.reader l.most l.left;
  left : left_of l.wire ≡ left_of l.initial.wire;
  same : faults_of l.wire ≡ faults_of l.initial.wire;
}

abbrev pub decreases-loop-left : goal.decreases-loop-left
decreases-loop-left g l = l.left
