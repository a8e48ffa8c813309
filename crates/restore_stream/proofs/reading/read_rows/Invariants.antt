-- The paths that came so far, of which there are at most 1,048,576.
use Rattle.std.proofs.Common.{◌≡◌, ◌-◌, length}
use Rattle.restore_stream.proofs.RowReading.{RowsRead}
use Rattle.restore_stream.proofs.reading.read_rows.Given as goal

abbrev pub invariant-loop-tree : goal.invariant-loop-tree
invariant-loop-tree g l = record {
  read : RowsRead l.fn.start l.offset (g.S.Faults.left l.fn.source) (g.S.Faults.left l.source) l.tree;
  written : g.S.Faults.written l.source ≡ g.S.Faults.written l.fn.source;
  sent : g.S.Faults.sent l.source ≡ g.S.Faults.sent l.fn.source;
  same : g.S.Faults.faults l.source ≡ g.S.Faults.faults l.fn.source;
}

abbrev pub decreases-loop-tree : goal.decreases-loop-tree
decreases-loop-tree g l = 1048577 - length l.tree
