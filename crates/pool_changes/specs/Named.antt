-- What holds of all names of a pool.
use Rattle.std.specs.Prelude.{◌≡◌, ℕ, ◌<◌, true, length, slice_index, Some, is_some}
use Rattle.std.specs.declared.cmp.Ordering.TheVariants.{Less}
use Rattle.disk_trait.specs.declared.ids.PoolId.{PoolId}
use Rattle.pool_index.specs.Items.{id_cmp}
use Rattle.pool_changes.specs.declared.slot.Slot.TheVariants.{Doomed}
use Rattle.pool_changes.specs.Slots.{Slots, is_given, size_of}

-- the digest has 16 bytes, the extension two
pub record IsName (id : PoolId) : Type 0 where
  pub digest : length id.digest ≡ 16
  pub bytes : (i : ℕ) → slice_index id.digest i < 256
  pub extension : id.extension < 65536

-- each used name is one
abbrev pub AreNames : Slots → Type 0
AreNames slots = (id : PoolId) → is_some (slots id) ≡ true → IsName id

-- no live or staged content is empty
abbrev pub AreSized : Slots → Type 0
AreSized slots = (id : PoolId) → is_given (slots id) ≡ true → 0 < size_of (slots id)

-- no name is doomed
abbrev pub NoneDoomed : Slots → Type 0
NoneDoomed slots = (id : PoolId) → slots id ≡ Some Doomed → ⊥

-- the same of the names before one
abbrev pub NoneDoomedBelow : Slots → PoolId → Type 0
NoneDoomedBelow slots id = (other : PoolId) → id_cmp other id ≡ Less → slots other ≡ Some Doomed → ⊥
