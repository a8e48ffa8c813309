-- The items of a file of counts.
--     item_bytes      digest, extension u16, number u64
--     IsNext      an item that may stand behind others
--     IsCounts      the items that a file may have
use Rattle.std.specs.Prelude.{◌≡◌, ℕ, ◌<◌, true, List, [], ◌∷◌, ◌++◌, length}
use Rattle.std.specs.Int.{w16, w64}
use Rattle.std.specs.List.{AllByRecursion}
use Rattle.wire_bytes.specs.Layout.{number_bytes, IsNumber}
use Rattle.disk_trait.specs.declared.ids.PoolId.{PoolId}
use Rattle.ordered_lists.specs.Order.{IsInOrder, is_after}
use Rattle.pool_index.specs.Items.{id_cmp, IsId}
use Rattle.ref_counts.specs.Numbers.{Items}

-- RCT1
abbrev pub counts_magic : List ℕ
counts_magic = 82 ∷ 67 ∷ 84 ∷ 49 ∷ []

-- digest, extension u16, number u64
unfoldable pub item_bytes : PoolId × ℕ → List ℕ
item_bytes item = item.0.digest ++ (number_bytes w16 item.0.extension ++ number_bytes w64 item.1)

-- the numbers of an item are in their ranges
pub record IsInRange (item : PoolId × ℕ) : Type 0 where
  pub id : IsId item.0
  pub number : IsNumber w64 item.1

-- an item has a number of at least 1
pub record IsItem (item : PoolId × ℕ) : Type 0 where
  pub range : IsInRange item
  pub some : 0 < item.1

-- an item whose id comes after those of the items before it
abbrev pub IsNext : Items → PoolId × ℕ → Type 0
IsNext before item = IsItem item × (is_after id_cmp before item.0 ≡ true)

-- items in order, few enough to be counted
pub record IsCounts (items : Items) : Type 0 where
  pub in_order : IsInOrder id_cmp items
  pub each : AllByRecursion IsItem items
  pub count : IsNumber w64 (length items)
