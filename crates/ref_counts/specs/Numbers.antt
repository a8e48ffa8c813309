-- How often each content is stored: a number for each id.
--     number items id      the number of an id, 0 if it has no item
--     total id tables      how often tables name an id
--     capped n      what an item holds of a number: the greatest one, where it is greater
use Rattle.std.specs.Prelude.{ℕ, zero, suc, ◌+◌, ◌-◌, ◌<◌, ◌^◌, List, [], ◌∷◌, Option, Some, None, min}
use Rattle.std.specs.Option.{unwrap_or}
use Rattle.std.specs.FinMap.Entries.{find}
use Rattle.disk_trait.specs.declared.ids.PoolId.{PoolId}
use Rattle.ordered_lists.specs.Order.{IsInOrder}
use Rattle.pool_index.specs.Items.{id_cmp}
use Rattle.merge_view.specs.Views.{Rows}
use Rattle.stored_trees.specs.Occurrences.{occurrences}

-- ids with their numbers
abbrev pub Items : Type 0
Items = List (PoolId × ℕ)

-- no number is 0
abbrev pub AreSome : Items → Type 0
AreSome [] = Unit {0}
AreSome (item ∷ items) = (0 < item.1) × AreSome items

-- the items of counts: their ids strictly rise
abbrev pub AreCounts : Items → Type 0
AreCounts items = IsInOrder id_cmp items × AreSome items

-- the number of an id, 0 if it has no item
abbrev pub number : Items → PoolId → ℕ
number items id = unwrap_or (find id_cmp id items) 0

-- how often tables name an id
abbrev pub total : PoolId → List Rows → ℕ
total id [] = 0
total id (table ∷ tables) = occurrences id table + total id tables

-- what an item holds of a number: the greatest one, where it is greater
abbrev pub capped : ℕ → ℕ
capped n = min n (2 ^ 64 - 1)

-- the number of an item, which 0 has none of
abbrev pub item_of : ℕ → Option ℕ
item_of zero = None
item_of (suc n) = Some (suc n)

-- what two counts have at an id, put together
abbrev pub summed : Option ℕ → Option ℕ → Option ℕ
summed a b = item_of (capped (unwrap_or a 0 + unwrap_or b 0))

-- what the first of two counts has more
abbrev pub less : Option ℕ → Option ℕ → Option ℕ
less a b = item_of (unwrap_or a 0 - unwrap_or b 0)
