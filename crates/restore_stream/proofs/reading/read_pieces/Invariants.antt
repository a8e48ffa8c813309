-- The pieces that came so far.
use Rattle.std.proofs.Common.{◌≡◌, ◌-◌, length}
use Rattle.restore_stream.proofs.PieceReading.{PiecesRead}
use Rattle.restore_stream.proofs.reading.read_pieces.Given as goal

abbrev pub invariant-loop-alloc : goal.invariant-loop-alloc
invariant-loop-alloc g l = record {
  read : PiecesRead l.size l.fn.start l.offset (g.S.Faults.left l.fn.source) (g.S.Faults.left l.source) l.bytes.items;
  written : g.S.Faults.written l.source ≡ g.S.Faults.written l.fn.source;
  sent : g.S.Faults.sent l.source ≡ g.S.Faults.sent l.fn.source;
  same : g.S.Faults.faults l.source ≡ g.S.Faults.faults l.fn.source;
}

abbrev pub decreases-loop-alloc : goal.decreases-loop-alloc
decreases-loop-alloc g l = l.size - length l.bytes.items
