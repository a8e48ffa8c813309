-- One more item behind those that were written.
use Rattle.std.proofs.Common.{◌≡◌, ◌<◌, ℕ, ◌+◌, List, [], ◌∷◌, ◌++◌, length, take, get_or, refl, sym, ap, subst, ◌∙◌}
use Rattle.std.specs.List.{AllByRecursion}
use Rattle.std.proofs.lemmas.List.{take_more}
use Rattle.wire_bytes.specs.ItemLaws.{items_put_more}
use Rattle.pool_index.specs.declared.item.IndexItem.{IndexItem}
use Rattle.pool_index.specs.Items.{IsInRange}
use Rattle.pool_index.specs.Layout.{item_bytes}
use Rattle.pool_index.proofs.writing.put_items.Goals as goal

one_more : (P : IndexItem → Type 0) (xs : List IndexItem) (x : IndexItem) → AllByRecursion P xs → P x → AllByRecursion P (xs ++ x ∷ [])
one_more P [] x all p = (p, tt)
one_more P (y ∷ xs) x all p = (all.0, one_more P xs x all.1 p)

all_more : (P : IndexItem → Type 0) (xs : List IndexItem) (i : ℕ) (d : IndexItem) → i < length xs → AllByRecursion P (take i xs) → P (get_or xs i d) → AllByRecursion P (take (i + 1) xs)
all_more P xs i d within all p = subst (AllByRecursion P) (sym (take_more xs i d within)) (one_more P (take i xs) (get_or xs i d) all p)

pub loop-item-preserved : goal.loop-item-preserved
loop-item-preserved c = record {
  written = items_put_more item_bytes c.args.items.now c.loop-item.item-index _ _ _ _ _ c.loop-item-test.true refl c.loop-item.invariant.written c.in_ok-put_item.ensures.ok;
  range = all_more IsInRange c.args.items.now c.loop-item.item-index _ c.loop-item-test.true c.loop-item.invariant.range c.in_ok-put_item.ensures.range;
}
