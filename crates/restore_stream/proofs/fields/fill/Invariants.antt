-- The bytes that came so far fill the front of the room.
use Rattle.std.proofs.Common.{length, ◌-◌, ◌≡◌, ◌≤◌, take}
use Rattle.stream_traits.specs.Told.{before}
use Rattle.restore_stream.proofs.fields.fill.Given as goal

abbrev pub invariant-loop-done : goal.invariant-loop-done
invariant-loop-done g l = record {
  in_range : l.done ≤ length l.room;
  len : length l.room ≡ length l.fn.room;
  told : g.S.Faults.left l.fn.source ≡ before (take l.done l.room) (g.S.Faults.left l.source);
  written : g.S.Faults.written l.source ≡ g.S.Faults.written l.fn.source;
  sent : g.S.Faults.sent l.source ≡ g.S.Faults.sent l.fn.source;
  same : g.S.Faults.faults l.source ≡ g.S.Faults.faults l.fn.source;
}

abbrev pub decreases-loop-done : goal.decreases-loop-done
decreases-loop-done g l = length l.initial.room - l.done
