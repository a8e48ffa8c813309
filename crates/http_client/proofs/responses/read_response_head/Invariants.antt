use Rattle.std.proofs.Common.{◌≡◌, ◌-◌, length}
use Rattle.http_heads.specs.Fronts.{head_limit}
use Rattle.http_wire.specs.Wires.{ahead_of, left_of, written_of, faults_of}
use Rattle.http_client.proofs.responses.read_response_head.Given as goal

abbrev pub invariant-loop-read : goal.invariant-loop-read
invariant-loop-read g l = record {
  left : left_of l.wire ≡ left_of l.initial.wire;
  written : written_of l.wire ≡ written_of l.initial.wire;
  same : faults_of l.wire ≡ faults_of l.initial.wire;
}

abbrev pub decreases-loop-read : goal.decreases-loop-read
decreases-loop-read g l = head_limit - length (ahead_of l.wire)
