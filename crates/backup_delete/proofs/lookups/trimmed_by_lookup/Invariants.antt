use Rattle.std.proofs.Common.{◌≡◌, ◌++◌, drop}
use Rattle.backup_delete.specs.Lookups.{trimmed_by_lookup}
use Rattle.backup_delete.proofs.lookups.trimmed_by_lookup.Given as goal

abbrev pub invariant-loop-row : goal.invariant-loop-row
invariant-loop-row l =
    l.rows.items ++ trimmed_by_lookup l.tree (drop l.row-index l.entries) ≡ trimmed_by_lookup l.tree l.entries
