-- Merged items, each of which is its own entry.
use Rattle.std.proofs.Common.{◌≡◌, map, sym, ◌∙◌, Option, ℕ}
use Rattle.std.proofs.lemmas.List.{map-id}
use Rattle.disk_trait.specs.declared.ids.PoolId.{PoolId}
use Rattle.ordered_lists.specs.Merge.{merge}
use Rattle.pool_index.specs.Items.{id_cmp}
use Rattle.ref_counts.specs.Numbers.{Items}

pub merged : (f : Option ℕ → Option ℕ → Option ℕ) (items left right xs ys : Items)
    → map (λ (i : PoolId × ℕ). i) items ≡ merge id_cmp f (map (λ (i : PoolId × ℕ). i) left) (map (λ (i : PoolId × ℕ). i) right) → left ≡ xs → right ≡ ys
    → items ≡ merge id_cmp f xs ys
merged f items left right xs ys e a b = sym (map-id items) ∙ e ∙ (λ i. merge id_cmp f ((map-id left ∙ a) i) ((map-id right ∙ b) i))
