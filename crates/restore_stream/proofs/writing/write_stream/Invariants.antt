-- The bytes written, and those of the frames that are left.
use Rattle.std.proofs.Common.{◌≡◌, length}
use Rattle.restore_stream.specs.Layouts.{stream_bytes}
use Rattle.restore_stream.proofs.WritingLaws.{IsWrittenUpTo}
use Rattle.restore_stream.proofs.writing.write_stream.Given as goal

abbrev pub invariant-loop : goal.invariant-loop
invariant-loop g l = record {
  wrote : IsWrittenUpTo (g.K.Faults.written l.fn.sink) (g.K.Faults.written l.sink) l.cursor (stream_bytes l.tree);
  left : g.K.Faults.left l.sink ≡ g.K.Faults.left l.fn.sink;
  sent : g.K.Faults.sent l.sink ≡ g.K.Faults.sent l.fn.sink;
  same : g.K.Faults.faults l.sink ≡ g.K.Faults.faults l.fn.sink;
}

abbrev pub decreases-loop : goal.decreases-loop
decreases-loop g l = length l.cursor
