use Rattle.std.proofs.Common.{◌≡◌, ◌≤◌, ◌-◌, drop, length}
use Rattle.ordered_lists.specs.Order.{IsInOrder}
use Rattle.attr_records.specs.Paths.{path_cmp}
use Rattle.merge_view.specs.Views.{stacked, trimmed}
use Rattle.backup_delete.specs.Trees.{tree_of}
use Rattle.backup_delete.proofs.runs.trimmed_by.Given as goal

abbrev pub invariant-up : goal.invariant-up
invariant-up l = record {
  within : l.i ≤ length l.lines;
  after : l.index ≤ l.i;
  done : IsInOrder path_cmp l.done;
  rest : IsInOrder path_cmp l.rest;
  told : trimmed (tree_of (drop l.index l.lines) (drop l.index l.tables)) l.entries
      ≡ stacked l.done (trimmed (tree_of (drop l.i l.lines) (drop l.i l.tables)) l.rest);
}

abbrev pub decreases-up : goal.decreases-up
decreases-up l = length l.lines - l.i
