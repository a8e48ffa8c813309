use Rattle.std.proofs.Common.{◌≡◌, ◌≤◌, ◌-◌, min, vec_len}
use Rattle.stream_traits.specs.Told.{before}
use Rattle.stream_traits.proofs.reading.read_exactly.Given as goal

abbrev pub invariant-loop-room : goal.invariant-loop-room
invariant-loop-room g l = record {
  in_range : vec_len l.got ≤ l.count;
  piece : vec_len l.room ≡ min l.count 65536;
  told : g.S.Faults.left l.initial.source ≡ before l.got.items (g.S.Faults.left l.source);
  written : g.S.Faults.written l.source ≡ g.S.Faults.written l.initial.source;
  sent : g.S.Faults.sent l.source ≡ g.S.Faults.sent l.initial.source;
  same : g.S.Faults.faults l.source ≡ g.S.Faults.faults l.initial.source;
}

abbrev pub decreases-loop-room : goal.decreases-loop-room
decreases-loop-room g l = l.count - vec_len l.got
