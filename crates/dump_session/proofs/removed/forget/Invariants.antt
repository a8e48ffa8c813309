use Rattle.std.proofs.Common.{◌≡◌, ℕ, List, cond, None, take}
use Rattle.std.specs.List.{list_any}
use Rattle.std.specs.Ordering.{eq_by_cmp}
use Rattle.attr_records.specs.Paths.{path_cmp}
use Rattle.ordered_lists.specs.Order.{IsInOrder}
use Rattle.attr_records.specs.Trees.{node_at}
use Rattle.dump_session.proofs.removed.forget.Given as goal

abbrev pub invariant-loop-path : goal.invariant-loop-path
invariant-loop-path g l = record {
  in_order : IsInOrder path_cmp l.map.entries;
  each : (asked : List ℕ)
      → node_at l.map.entries asked ≡ cond (list_any (λ path. eq_by_cmp path_cmp path asked) (take l.path-index l.paths)) None (node_at l.initial.map.entries asked);
}
