-- The changes so far, and those of the tables that are left; and if those fit, all do.
use Rattle.std.proofs.Common.{◌≡◌, ◌++◌, drop}
use Rattle.store_deletions.specs.Written.{table_part, AreFit}
use Rattle.store_deletions.proofs.files.push_tables.Given as goal

abbrev pub invariant-loop-table : goal.invariant-loop-table
invariant-loop-table l = record {
  pushed : l.changes ++ table_part l.host (drop l.table-index l.tables) ≡ l.fn.changes ++ table_part l.host l.tables;
  fit : AreFit (drop l.table-index l.tables) → AreFit l.tables;
}
