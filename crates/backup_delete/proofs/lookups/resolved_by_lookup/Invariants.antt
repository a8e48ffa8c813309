use Rattle.std.proofs.Common.{◌≡◌, ◌++◌, drop}
use Rattle.backup_delete.specs.Lookups.{resolved_by_lookup}
use Rattle.backup_delete.proofs.lookups.resolved_by_lookup.Given as goal

abbrev pub invariant-loop-row : goal.invariant-loop-row
invariant-loop-row l =
    l.rows.items ++ resolved_by_lookup (drop l.row-index l.entries) l.table ≡ resolved_by_lookup l.entries l.table
