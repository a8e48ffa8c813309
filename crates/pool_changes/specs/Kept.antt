-- What the calls of a pool keep.
use Rattle.std.specs.Prelude.{◌≡◌, Option}
use Rattle.disk_trait.specs.declared.ids.PoolId.{PoolId}
use Rattle.pool_changes.specs.declared.slot.Slot.{Slot}
use Rattle.pool_changes.specs.declared.names.Names.{Names}
use Rattle.pool_changes.specs.Slots.{Slots, slots_in, with_slot}

-- the slots of names
abbrev pub slots_of : Names → Slots
slots_of names = slots_in names.map

-- the slots have another one at a name
abbrev pub IsSet : (old new : Slots) → PoolId → Option Slot → Type 0
IsSet old new id slot = (asked : PoolId) → new asked ≡ with_slot old id slot asked

abbrev pub IsSame : (old new : Slots) → Type 0
IsSame old new = (asked : PoolId) → new asked ≡ old asked
