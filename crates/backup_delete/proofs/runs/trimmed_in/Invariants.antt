use Rattle.std.proofs.Common.{◌≡◌, ◌++◌, drop}
use Rattle.backup_delete.specs.Trees.{tree_of}
use Rattle.backup_delete.specs.Lookups.{trimmed_by_lookup}
use Rattle.backup_delete.proofs.runs.trimmed_in.Given as goal

abbrev pub invariant-loop-row : goal.invariant-loop-row
invariant-loop-row l =
    l.rows.items ++ trimmed_by_lookup (tree_of (drop l.tower.start l.lines) (drop l.tower.start l.tables)) (drop l.row-index l.entries)
    ≡ trimmed_by_lookup (tree_of (drop l.tower.start l.lines) (drop l.tower.start l.tables)) l.entries
