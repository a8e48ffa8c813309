-- The order of items.
use Rattle.std.specs.Prelude.{◌≡◌, ℕ, suc, ◌-◌, Bool, List, [], ◌∷◌, length, Option, Some, slice_get}
use Rattle.std.specs.Ordering.{is_lt}
use Rattle.std.proofs.Common.{refl, sym, ap, ◌∙◌, arith}
use Rattle.disk_trait.specs.declared.ids.PoolId.{PoolId}
use Rattle.pool_index.specs.declared.item.IndexItem.{IndexItem}
use Rattle.pool_index.specs.Items.{id_cmp, is_behind}

last_of : (id : PoolId) (item : IndexItem) (items : List IndexItem) (last : IndexItem) → Some last ≡ slice_get (item ∷ items) (length items) → is_lt (id_cmp last.id id) ≡ is_behind (item ∷ items) id
last_of id item [] last is = let same : last ≡ item = cc in ap (λ (x : IndexItem). is_lt (id_cmp x.id id)) same
last_of id item (next ∷ items) last is = last_of id next items last is

-- what decides whether a name comes behind items is the last of them
pub last_tells : (items : List IndexItem) (id : PoolId) (last : IndexItem) → Some last ≡ slice_get items (length items - 1) → is_lt (id_cmp last.id id) ≡ is_behind items id
last_tells [] id last is = absurd cc
last_tells (item ∷ items) id last is =
    let here : suc (length items) - 1 ≡ length items = omega arith in
    last_of id item items last (is ∙ ap (λ n. slice_get (item ∷ items) n) here)
