use Rattle.std.proofs.Common.{◌≡◌, ◌-◌, ◌≤◌}
use Rattle.http_wire.specs.Bodies.{AddsBytes}
use Rattle.http_wire.specs.Wires.{left_of, written_of, faults_of}
use Rattle.http_wire.proofs.body.add_bytes.Given as goal

abbrev pub invariant-loop-missing : goal.invariant-loop-missing
invariant-loop-missing g l = record {
  few : l.missing ≤ l.count;
  came : AddsBytes l.initial.bytes.items l.bytes.items (left_of l.initial.wire) (left_of l.wire) (l.count - l.missing);
  written : written_of l.wire ≡ written_of l.initial.wire;
  same : faults_of l.wire ≡ faults_of l.initial.wire;
}

abbrev pub decreases-loop-missing : goal.decreases-loop-missing
decreases-loop-missing g l = l.missing
