-- One more item behind those that were written.
use Rattle.std.proofs.Common.{◌≡◌, ◌<◌, ℕ, ◌+◌, [], ◌∷◌, ◌++◌, length, take, get_or, sym, ap, ◌∙◌}
use Rattle.std.specs.List.{AllByRecursion}
use Rattle.std.proofs.lemmas.List.{take_more}
use Rattle.disk_trait.specs.declared.ids.PoolId.{PoolId}
use Rattle.wire_bytes.specs.ItemLaws.{items_put_more, AreItems-snoc, AreItems-from_all, AllByRecursion-from_items}
use Rattle.ref_counts.specs.Numbers.{Items}
use Rattle.ref_counts.specs.Layout.{item_bytes, IsInRange}
use Rattle.ref_counts.proofs.writing.put_items.Goals as goal

all_more : (items : Items) (i : ℕ) (item : PoolId × ℕ) → i < length items → item ≡ get_or items i item → AllByRecursion IsInRange (take i items) → IsInRange item
    → AllByRecursion IsInRange (take (i + 1) items)
all_more items i item within is before here =
    let more : take (i + 1) items ≡ take i items ++ item ∷ [] = take_more items i item within ∙ ap (λ r. take i items ++ r ∷ []) (sym is) in
    rw more (AllByRecursion-from_items IsInRange [] (take i items ++ item ∷ [])
    (AreItems-snoc (λ _. IsInRange) [] (take i items) item (AreItems-from_all IsInRange [] (take i items) before) here))

pub loop-item-preserved : goal.loop-item-preserved
loop-item-preserved c = record {
  written = items_put_more item_bytes c.args.items.now c.loop-item.item-index c.item-item.result c.item-item.result _ _ _ c.loop-item-test.true c.item-item.is
      c.loop-item.invariant.written c.in_ok-put_item.ensures.ok;
  range = all_more c.args.items.now c.loop-item.item-index c.item-item.result c.loop-item-test.true c.item-item.is c.loop-item.invariant.range
      c.in_ok-put_item.ensures.range;
}
