use Rattle.std.proofs.Common.{◌≡◌, ◌++◌, false}
use Rattle.std.specs.List.{list_any}
use Rattle.attr_records.specs.Paths.{path_cmp}
use Rattle.ordered_lists.specs.Order.{IsInOrder}
use Rattle.merge_view.specs.Runs.{within_rows, row_first}
use Rattle.dump_session.specs.Counts.{paths_of}
use Rattle.dump_session.proofs.removed.paths_within.Given as goal

abbrev pub invariant-loop-path : goal.invariant-loop-path
invariant-loop-path g l = record {
  in_order : IsInOrder path_cmp l.path-iterator;
  behind : list_any (row_first false l.directory) l.path-iterator ≡ false;
  told : l.found.items ++ paths_of (within_rows l.directory l.path-iterator) ≡ paths_of (within_rows l.directory l.map.entries);
}
