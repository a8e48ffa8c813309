use Rattle.wire_bytes.specs.ItemLaws.{ItemsRead}
use Rattle.pool_index.specs.Items.{IsNextItem}
use Rattle.pool_index.specs.Layout.{item_bytes}
use Rattle.pool_index.proofs.reading.read_items.Given as goal

abbrev pub invariant-loop-i : goal.invariant-loop-i
invariant-loop-i l = ItemsRead (IsNextItem l.byte) item_bytes l.fn.reader l.reader l.items.items l._i l.count
