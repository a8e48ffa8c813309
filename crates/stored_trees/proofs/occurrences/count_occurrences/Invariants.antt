use Rattle.std.proofs.Common.{◌≡◌, ◌+◌, ◌≤◌, drop}
use Rattle.stored_trees.specs.Occurrences.{occurrences}
use Rattle.stored_trees.proofs.occurrences.count_occurrences.Given as goal

abbrev pub invariant-loop-row : goal.invariant-loop-row
invariant-loop-row l = record {
  few : l.count ≤ l.row-index;
  told : l.count + occurrences l.id (drop l.row-index l.rows) ≡ occurrences l.id l.rows;
}
