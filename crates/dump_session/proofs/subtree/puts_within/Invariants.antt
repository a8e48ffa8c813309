use Rattle.std.proofs.Common.{◌≡◌, ◌++◌, false}
use Rattle.std.specs.List.{list_any}
use Rattle.attr_records.specs.Paths.{path_cmp}
use Rattle.ordered_lists.specs.Order.{IsInOrder}
use Rattle.merge_view.specs.Runs.{within_rows, row_first}
use Rattle.dump_session.proofs.subtree.puts_within.Given as goal

abbrev pub invariant-loop-path : goal.invariant-loop-path
invariant-loop-path l = record {
  in_order : IsInOrder path_cmp l.path-iterator;
  behind : list_any (row_first false l.directory) l.path-iterator ≡ false;
  told : l.found.items ++ within_rows l.directory l.path-iterator ≡ within_rows l.directory l.puts.entries;
}
