use Rattle.std.proofs.Common.{◌≡◌, ◌++◌, drop, not}
use Rattle.std.specs.FinMap.Entries.{where_key}
use Rattle.attr_records.specs.Paths.{path_cmp, parent}
use Rattle.change_laws.specs.Changes.{lies_in, topmost}
use Rattle.tree_changes.proofs.edits.topmost.Given as goal

abbrev pub invariant-loop-row : goal.invariant-loop-row
invariant-loop-row l =
    l.tops.items ++ where_key path_cmp (λ path. not (lies_in l.rows (parent path))) (drop l.row-index l.rows) ≡ topmost l.rows
