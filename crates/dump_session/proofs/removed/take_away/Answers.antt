-- The new path takes the place of those within it, and what they took away isn't counted again.
use Rattle.std.proofs.Common.{◌≡◌, ◌+◌, ℕ, Bool, true, false, ◌||◌, cond, None, List, length, refl, sym, ap, ◌∙◌, subst, arith}
use Rattle.std.specs.List.{list_any}
use Rattle.std.specs.Ordering.{eq_by_cmp}
use Rattle.attr_records.specs.Paths.{path_cmp, is_within}
use Rattle.attr_records.specs.PathLaws.{within-itself}
use Rattle.ordered_lists.specs.Order.{IsInOrder}
use Rattle.ordered_lists.specs.OrderLaws.{order_from_keys}
use Rattle.attr_records.specs.Trees.{node_at, with_node}
use Rattle.attr_records.specs.TreeLaws.{insert_entry-with_node}
use Rattle.merge_view.specs.Views.{Rows}
use Rattle.merge_view.specs.Runs.{within_rows}
use Rattle.dump_session.specs.Removed.{is_gone, IsApart, with_removed}
use Rattle.dump_session.proofs.RemovedLaws.{gone_below, is_gone-with_removed, IsApart-with_removed}
use Rattle.dump_session.specs.Edits.{outside}
use Rattle.dump_session.specs.Counts.{total_rows, paths_of}
use Rattle.dump_session.proofs.CountLaws.{none-left, left-total}
use Rattle.dump_session.proofs.Maps.{replaced}
use Rattle.dump_session.proofs.removed.take_away.Goals as goal

pub is_gone-requires-clause-above : goal.is_gone-requires-clause-above
is_gone-requires-clause-above c = ap (λ p. is_within p c.args.path.now) c.as_slice.ensures.value ∙ within-itself c.args.path.now

module _ {X : Type 0} where
  already : (removed : List (List ℕ × X)) (path slice : List ℕ) → slice ≡ path → true ≡ is_gone removed slice → is_gone removed path ≡ true
  already removed path slice is told = ap (is_gone removed) (sym is) ∙ sym told

  not_yet : (removed : List (List ℕ × X)) (path slice : List ℕ) → slice ≡ path → false ≡ is_gone removed slice
      → is_gone removed path ≡ false
  not_yet removed path slice is told = ap (is_gone removed) (sym is) ∙ sym told

  no_more : (removed : List (List ℕ × X)) (path : List ℕ) → is_gone removed path ≡ true → (asked : List ℕ)
      → is_gone removed asked ≡ (is_within path asked || is_gone removed asked)
  no_more removed path gone asked = step (is_within path asked) refl
    where
      step : (b : Bool) → is_within path asked ≡ b → is_gone removed asked ≡ (b || is_gone removed asked)
      step true is = gone_below removed path asked gone is
      step false is = refl

  -- the rows that are left, as what all have without what was taken away before
  counted : (base : Rows) (removed : List (List ℕ × X)) (path : List ℕ) (all : Rows) (paths : List (List ℕ)) → IsInOrder path_cmp removed
      → IsApart removed → is_gone removed path ≡ false
      → all ≡ within_rows path base → paths ≡ paths_of (within_rows path removed)
      → length (within_rows path (outside base removed)) + total_rows base paths ≡ length all
  counted base removed path all paths order apart there is inner =
      ap (λ ps. length (within_rows path (outside base removed)) + total_rows base ps) inner
      ∙ left-total base removed path order apart there ∙ ap length (sym is)

pub returns-then-is_gone-clause-gone : goal.returns-then-is_gone-clause-gone
returns-then-is_gone-clause-gone c =
    no_more c.args.removed.now.entries c.args.path.now (already c.args.removed.now.entries c.args.path.now _ c.as_slice.ensures.value c.if-is_gone.ensures)

pub returns-then-is_gone-clause-count : goal.returns-then-is_gone-clause-count
returns-then-is_gone-clause-count c =
    ap length (sym (none-left c.args.base.now c.args.removed.now.entries c.args.path.now (already c.args.removed.now.entries c.args.path.now _ c.as_slice.ensures.value c.if-is_gone.ensures)))

pub total_rows-taken-requires-clause-fits : goal.total_rows-taken-requires-clause-fits
total_rows-taken-requires-clause-fits c =
    let there = not_yet c.args.removed.now.entries c.args.path.now _ c.as_slice.ensures.value c.if-is_gone.ensures in
    let e = counted c.args.base.now c.args.removed.now.entries c.args.path.now c.within-all.result.now c.as_slice-3.result.now c.requires.in_order c.requires.apart there (c.within-all.ensures ∙ ap (λ p. within_rows p c.args.base.now) c.as_slice-2.ensures.value) (c.as_slice-3.ensures.value ∙ c.in_ok-inner.ensures) in
    omega arith

pub overflow_sub-result : goal.overflow_sub-result
overflow_sub-result c =
    let there = not_yet c.args.removed.now.entries c.args.path.now _ c.as_slice.ensures.value c.if-is_gone.ensures in
    let e = counted c.args.base.now c.args.removed.now.entries c.args.path.now c.within-all.result.now c.as_slice-3.result.now c.requires.in_order c.requires.apart there (c.within-all.ensures ∙ ap (λ p. within_rows p c.args.base.now) c.as_slice-2.ensures.value) (c.as_slice-3.ensures.value ∙ c.in_ok-inner.ensures) in
    omega (arith, c.total_rows-taken.ensures)

pub returns-clause-count : goal.returns-clause-count
returns-clause-count c =
    let there = not_yet c.args.removed.now.entries c.args.path.now _ c.as_slice.ensures.value c.if-is_gone.ensures in
    let e = counted c.args.base.now c.args.removed.now.entries c.args.path.now c.within-all.result.now c.as_slice-3.result.now c.requires.in_order c.requires.apart there (c.within-all.ensures ∙ ap (λ p. within_rows p c.args.base.now) c.as_slice-2.ensures.value) (c.as_slice-3.ensures.value ∙ c.in_ok-inner.ensures) in
    omega (arith, c.total_rows-taken.ensures)

-- the map that is left
made : (old middle new : List (List ℕ × Unit {0})) (path copy : List ℕ) (paths items : List (List ℕ)) → IsInOrder path_cmp old
    → IsInOrder path_cmp new → middle ≡ with_node old copy tt → copy ≡ path → is_gone old path ≡ false
    → items ≡ paths → paths ≡ paths_of (within_rows path old)
    → ((asked : List ℕ) → node_at new asked ≡ cond (list_any (λ p. eq_by_cmp path_cmp p asked) items) None (node_at middle asked))
    → new ≡ with_removed old path tt
made old middle new path copy paths items g h put is there items_are inner each =
    replaced old middle new path tt items g h (put ∙ ap (λ p. with_node old p tt) is) there (items_are ∙ inner) each

pub returns-clause-gone : goal.returns-clause-gone
returns-clause-gone c =
    let there = not_yet c.args.removed.now.entries c.args.path.now _ c.as_slice.ensures.value c.if-is_gone.ensures in
    let e = made c.args.removed.now.entries c.insert.new.self.entries c.forget.new.map.entries c.args.path.now c.in_ok-copy.field-0 c.in_ok-inner.inner.items c.as_slice-4.result.now
    c.requires.in_order c.forget.ensures.in_order (c.in_ok-insert.ensures.entries ∙ insert_entry-with_node c.args.removed.now.entries c.in_ok-copy.field-0 tt) c.in_ok-copy.ensures there c.as_slice-4.ensures.value c.in_ok-inner.ensures c.forget.ensures.each in
    λ asked. ap (λ removed. is_gone removed asked) e ∙ is_gone-with_removed c.args.removed.now.entries c.args.path.now tt asked

pub returns-clause-apart : goal.returns-clause-apart
returns-clause-apart c =
    let there = not_yet c.args.removed.now.entries c.args.path.now _ c.as_slice.ensures.value c.if-is_gone.ensures in
    let e = made c.args.removed.now.entries c.insert.new.self.entries c.forget.new.map.entries c.args.path.now c.in_ok-copy.field-0 c.in_ok-inner.inner.items c.as_slice-4.result.now
    c.requires.in_order c.forget.ensures.in_order (c.in_ok-insert.ensures.entries ∙ insert_entry-with_node c.args.removed.now.entries c.in_ok-copy.field-0 tt) c.in_ok-copy.ensures there c.as_slice-4.ensures.value c.in_ok-inner.ensures c.forget.ensures.each in
    subst (λ removed. IsApart removed) (sym e) (IsApart-with_removed c.args.removed.now.entries c.args.path.now tt c.requires.apart there)

pub forget-requires : goal.forget-requires
forget-requires c = order_from_keys path_cmp c.insert.new.self.entries c.insert.ensures.ordered
