use Rattle.std.proofs.Common.{◌≡◌, ◌++◌, take}
use Rattle.std.specs.List.{AllByRecursion}
use Rattle.wire_bytes.specs.Breaks.{items_bytes}
use Rattle.attr_tables.specs.declared.layouts.TableLayout.TheVariants.{Second}
use Rattle.attr_tables.specs.Layout.{row_bytes, IsRow}
use Rattle.attr_tables.proofs.writing.put_rows.Given as goal

abbrev pub invariant-loop-row : goal.invariant-loop-row
invariant-loop-row l = record {
  written : l.out.items ≡ l.initial.out.items ++ items_bytes (row_bytes Second) (take l.row-index l.rows);
  fits : AllByRecursion (IsRow Second) (take l.row-index l.rows);
}
