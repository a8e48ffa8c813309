use Rattle.std.proofs.Common.{length, ◌-◌, ◌≡◌, ◌≤◌, take}
use Rattle.stream_traits.specs.Told.{behind}
use Rattle.stream_traits.proofs.writing.write_all.Given as goal

abbrev pub invariant-loop-done : goal.invariant-loop-done
invariant-loop-done g l = record {
  in_range : l.done ≤ length l.bytes;
  wrote : g.K.Faults.written l.sink ≡ behind (g.K.Faults.written l.initial.sink) (take l.done l.bytes);
  left : g.K.Faults.left l.sink ≡ g.K.Faults.left l.initial.sink;
  sent : g.K.Faults.sent l.sink ≡ g.K.Faults.sent l.initial.sink;
  same : g.K.Faults.faults l.sink ≡ g.K.Faults.faults l.initial.sink;
}

abbrev pub decreases-loop-done : goal.decreases-loop-done
decreases-loop-done g l = length l.bytes - l.done
