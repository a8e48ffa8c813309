use Rattle.wire_bytes.specs.ItemLaws.{ItemsRead}
use Rattle.attr_tables.specs.Layout.{row_bytes, IsNext}
use Rattle.attr_tables.proofs.file.read_rows.Given as goal

abbrev pub invariant-loop-i : goal.invariant-loop-i
invariant-loop-i l = ItemsRead (IsNext l.layout) (row_bytes l.layout) l.fn.reader l.reader l.table l._i l.count
