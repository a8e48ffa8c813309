use Rattle.std.proofs.Common.{drop}
use Rattle.merge_view.specs.Tables.{AllInOrder}
use Rattle.backup_delete.proofs.deletion.in_order.Given as goal

abbrev pub invariant-loop-table : goal.invariant-loop-table
invariant-loop-table l = AllInOrder (drop l.table-index l.tables) → AllInOrder l.tables
