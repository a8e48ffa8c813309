-- The entries from the directory on, up to the first that isn't within it, are those of the directory.
use Rattle.std.proofs.Common.{◌≡◌, ◌++◌, false, ℕ, List, ◌∷◌, sym, ap, ◌∙◌, subst, append-nil}
use Rattle.std.specs.List.{list_any}
use Rattle.attr_records.specs.Paths.{path_cmp, is_within}
use Rattle.ordered_lists.specs.Order.{IsInOrder}
use Rattle.attr_tables.specs.declared.records.Record.{Record}
use Rattle.ordered_lists.specs.OrderLaws.{order_from_keys}
use Rattle.merge_view.specs.Runs.{within_rows, row_first}
use Rattle.merge_view.specs.Views.{Rows}
use Rattle.dump_session.proofs.Maps.{from_in_order, from_behind, from_within, none_more}
use Rattle.dump_session.proofs.subtree.puts_within.Goals as goal

ended : (found all : Rows) (directory : List ℕ) (row : List ℕ × Record) (left rows : Rows) → left ≡ row ∷ rows
    → IsInOrder path_cmp left → list_any (row_first false directory) left ≡ false → is_within directory row.0 ≡ false
    → found ++ within_rows directory left ≡ all → found ≡ all
ended found all directory row left rows is order behind outside told =
    let none = none_more directory row rows (subst (IsInOrder path_cmp) is order) (ap (list_any (row_first false directory)) (sym is) ∙ behind) outside in
    sym (append-nil found) ∙ ap (λ (others : Rows). found ++ others) (sym (ap (within_rows directory) is ∙ none)) ∙ told

pub loop-path-init : goal.loop-path-init
loop-path-init c =
    let entries = c.args.puts.now.entries in
    let directory = c.args.directory.now in
    let given = c.into_iter-path-iterator.ensures.into_iter_gives ∙ c.range-path-items.ensures.between tt in
    record {
      in_order = subst (IsInOrder path_cmp) (sym given) (from_in_order directory entries (order_from_keys path_cmp entries c.range-path-items.ensures.ordered));
      behind = ap (list_any (row_first false directory)) given ∙ from_behind directory entries;
      told = ap (λ (found : Rows). found ++ within_rows directory c.into_iter-path-iterator.result) c.new-found.ensures.items
          ∙ ap (λ (rows : Rows). within_rows directory rows) given ∙ from_within directory entries;
    }

pub returns-then-not-is_within : goal.returns-then-not-is_within
returns-then-not-is_within c =
    let outside = ap (is_within c.args.directory.now) (sym c.as_slice-in-loop-path.ensures.value) ∙ ap (λ directory. is_within directory c.as_slice-in-loop-path.result.now) (sym c.as_slice.ensures.value) ∙ sym c.if-not-is_within.ensures in
    ended _ _ c.args.directory.now (c.in-Some.path.now, c.in-Some.node.now) _ _ c.in-Some.ensures.steps c.loop-path.invariant.in_order c.loop-path.invariant.behind outside c.loop-path.invariant.told
