use Rattle.wire_bytes.specs.ItemLaws.{ItemsRead}
use Rattle.attr_tables.specs.declared.layouts.TableLayout.TheVariants.{Second}
use Rattle.attr_tables.specs.Layout.{row_bytes}
use Rattle.partial_files.specs.Layout.{IsNext}
use Rattle.partial_files.proofs.reading.read_rows.Given as goal

abbrev pub invariant-loop-i : goal.invariant-loop-i
invariant-loop-i l = ItemsRead IsNext (row_bytes Second) l.fn.reader l.reader l.rows l._i l.count
