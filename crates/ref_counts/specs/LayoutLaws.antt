-- Items each of which comes next are in order, and back.
--     parts_grammar      `RCT1`, the host's number, the number of items, the items
use Rattle.std.specs.Prelude.{◌≡◌, ℕ, Bool, true, false, [], ◌∷◌, ◌++◌}
use Rattle.std.specs.Int.{w32, w64}
use Rattle.std.specs.List.{AllByRecursion}
use Rattle.std.proofs.Common.{refl, sym, subst, append_assoc}
use Rattle.std.proofs.lemmas.List.{append-nil}
use Rattle.wire_bytes.specs.Layout.{number_bytes, IsNumber}
use Rattle.wire_bytes.specs.Breaks.{AreItems}
use Rattle.wire_bytes.specs.Grammar.{Grammar, field, followed_by, seen_as, Sees, magic, items_of, counted}
use Rattle.disk_trait.specs.declared.ids.PoolId.{PoolId}
use Rattle.ordered_lists.specs.Order.{IsInOrder, is_after}
use Rattle.ordered_lists.specs.OrderLaws.{not_rising, IsInOrder-append}
use Rattle.pool_index.specs.Items.{id_cmp}
use Rattle.pool_index.specs.ItemLaws.{id_total}
use Rattle.ref_counts.specs.Numbers.{Items}
use Rattle.ref_counts.specs.Layout.{counts_magic, item_bytes, IsItem, IsNext, IsCounts}

after_from_order : (before : Items) (item : PoolId × ℕ) (more : Items) → IsInOrder id_cmp (before ++ item ∷ more)
    → is_after id_cmp before item.0 ≡ true
after_from_order before item more order = step (is_after id_cmp before item.0) refl
  where
    step : (b : Bool) → is_after id_cmp before item.0 ≡ b → is_after id_cmp before item.0 ≡ true
    step true e = e
    step false e = absurd (not_rising id_cmp before item more e order)

next_from_order : (before items : Items) → IsInOrder id_cmp (before ++ items) → AllByRecursion IsItem items → AreItems IsNext before items
next_from_order before [] order each = tt
next_from_order before (item ∷ items) order each = (
  (each.0, after_from_order before item items order),
  next_from_order (before ++ item ∷ []) items (subst (λ (all : Items). IsInOrder id_cmp all) (sym (append_assoc before (item ∷ []) items)) order) each.1,
)

pub order_from_next : (before items : Items) → IsInOrder id_cmp before → AreItems IsNext before items
    → IsInOrder id_cmp (before ++ items) × AllByRecursion IsItem items
order_from_next before [] order are = (subst (λ (all : Items). IsInOrder id_cmp all) (sym (append-nil before)) order, tt)
order_from_next before (item ∷ items) order are =
    let rest = order_from_next (before ++ item ∷ []) items (IsInOrder-append id_cmp id_total before item order are.0.1) are.1 in
    (subst (λ (all : Items). IsInOrder id_cmp all) (append_assoc before (item ∷ []) items) rest.0, (are.0.0, rest.1))

-- the number of items, and the items
abbrev pub items_grammar : Grammar Items
items_grammar = counted w64 (IsNumber w64) IsNext item_bytes

-- what the file has in turn
abbrev pub parts_grammar : ℕ → Grammar (Unit {0} × (Unit {0} × Items))
parts_grammar host = followed_by (magic counts_magic) (λ _. followed_by (magic (number_bytes w32 host)) (λ _. items_grammar))

pub counts_sees : (host : ℕ) → Sees (parts_grammar host) IsCounts (λ items. (tt, (tt, items))) (λ p. p.1.1)
unfolding field followed_by items_of seen_as
counts_sees host = record {
  fits = λ items are. (tt, (tt, (are.count, next_from_order [] items are.in_order are.each)));
  made = λ items are. refl;
  makes = λ p are. let all = order_from_next [] p.1.1 tt are.1.1.1 in record { in_order = all.0; each = all.1; count = are.1.1.0 };
  parted = λ p are. refl;
}
