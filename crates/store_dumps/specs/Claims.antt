-- Claims of open sessions on the names of a pool.
--     LetsGo count old new      so many claims on each name are let go
--     Gains count old new      so many are added
--     claims_of_content content id      1 for the content's name
use Rattle.std.specs.Prelude.{◌≡◌, ℕ, ◌+◌, ◌<◌, true, Option, is_some, if◌then◌else◌}
use Rattle.disk_trait.specs.declared.ids.PoolId.{PoolId}
use Rattle.pool_changes.specs.declared.slot.Slot.{Slot}
use Rattle.pool_changes.specs.Slots.{Slots, is_given, size_of, claims_of}
use Rattle.pool_changes.specs.Listed.{item_of}
use Rattle.stored_trees.specs.Occurrences.{is_content}

-- So many claims on a name are let go: if it is live it stays so, if it is still claimed it stays given, and it stays used.
pub record Loses (count : ℕ) (id : PoolId) (old new : Option Slot) : Type 0 where
  pub claims : claims_of new + count ≡ claims_of old
  pub was_given : is_given new ≡ true → is_given old ≡ true
  pub size : is_given new ≡ true → size_of new ≡ size_of old
  pub given : is_given old ≡ true → 0 < claims_of new → is_given new ≡ true
  pub live : item_of id new ≡ item_of id old
  pub used : is_some new ≡ is_some old

-- so many claims on each name
abbrev pub LetsGo : (PoolId → ℕ) → (old new : Slots) → Type 0
LetsGo count old new = (id : PoolId) → Loses (count id) id (old id) (new id)

-- So many claims on a name are added, and all else of it stays.
pub record Gained (count : ℕ) (id : PoolId) (old new : Option Slot) : Type 0 where
  pub claims : claims_of new ≡ claims_of old + count
  pub given : is_given new ≡ is_given old
  pub size : size_of new ≡ size_of old
  pub live : item_of id new ≡ item_of id old
  pub used : is_some new ≡ is_some old

abbrev pub Gains : (PoolId → ℕ) → (old new : Slots) → Type 0
Gains count old new = (id : PoolId) → Gained (count id) id (old id) (new id)

-- 1 for the name of a content, if there is one
abbrev pub claims_of_content : Option PoolId → PoolId → ℕ
claims_of_content content id = if is_content id content then 1 else 0
