use Rattle.pool_changes.proofs.Picking.{picked}
use Rattle.pool_changes.proofs.Totals.{item_pick, AreTotalsWith}
use Rattle.pool_changes.proofs.listing.stats.Given as goal

abbrev pub invariant-loop-slot : goal.invariant-loop-slot
invariant-loop-slot l = AreTotalsWith l.stats (picked item_pick l.slot-iterator) (picked item_pick l.names.map.entries)
