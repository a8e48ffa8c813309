use Rattle.wire_bytes.specs.ItemLaws.{ItemsRead}
use Rattle.ref_counts.specs.Layout.{item_bytes, IsNext}
use Rattle.ref_counts.proofs.reading.read_items.Given as goal

abbrev pub invariant-loop-i : goal.invariant-loop-i
invariant-loop-i l = ItemsRead IsNext item_bytes l.fn.reader l.reader l.items.items l._i l.count
