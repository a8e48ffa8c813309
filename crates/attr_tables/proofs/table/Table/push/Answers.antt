-- A row behind the others keeps them in order.
use Rattle.std.proofs.Common.{◌≡◌, ℕ, List, true, ◌++◌, ◌∷◌, [], sym, ap, ◌∙◌}
use Rattle.attr_records.specs.Paths.{path_cmp}
use Rattle.attr_records.specs.PathLaws.{path_cmp_total}
use Rattle.ordered_lists.specs.Order.{IsInOrder}
use Rattle.attr_tables.specs.declared.records.Record.{Record}
use Rattle.ordered_lists.specs.Order.{is_after}
use Rattle.ordered_lists.specs.OrderLaws.{IsInOrder-append}
use Rattle.attr_tables.proofs.table.Table.push.Goals as goal

pushed : (old reserved new : List (List ℕ × Record)) (row : List ℕ × Record) → IsInOrder path_cmp old → reserved ≡ old → new ≡ reserved ++ row ∷ [] → is_after path_cmp old row.0 ≡ true → IsInOrder path_cmp new
pushed old reserved new row order same is behind =
    rw (is, same) (IsInOrder-append path_cmp path_cmp_total old row order behind)

behind_told : (old slice : List (List ℕ × Record)) (asked path : List ℕ) → slice ≡ old → path ≡ asked → true ≡ is_after path_cmp slice path → is_after path_cmp old asked ≡ true
behind_told old slice asked path rows_are path_is told =
    ap (λ rows. is_after path_cmp rows asked) (sym rows_are) ∙ ap (is_after path_cmp slice) (sym path_is) ∙ sym told

pub invariant_of-self-2 : goal.invariant_of-self-2
invariant_of-self-2 c = pushed _ _ _ c.args.row c.self.invariant c.reserve.ensures.items c.in-Ok.ensures.items
    (behind_told _ _ c.args.row.0 _ c.as_slice.ensures.value c.path.ensures c.if-not-is_after.ensures)
