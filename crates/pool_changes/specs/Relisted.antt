-- A change of the index.
use Rattle.std.specs.Prelude.{◌≤◌, ℕ, Bool, true, false, List, [], ◌∷◌, Option, Some, None}
use Rattle.disk_trait.specs.declared.ids.PoolId.{PoolId}
use Rattle.pool_changes.specs.declared.slot.Slot.{Slot}
use Rattle.pool_changes.specs.declared.slot.Slot.TheVariants.{Live, Staged, Doomed}
use Rattle.pool_changes.specs.declared.slot.Turn.{Turn}
use Rattle.pool_changes.specs.declared.slot.Turn.TheVariants.{Add, Mark, Unmark, Remove}
use Rattle.pool_changes.specs.Slots.{Slots, with_slot, claims_of}

-- added: a live or staged content is live without a mark
abbrev pub added : Option Slot → Option Slot
added None = None
added (Some (Live size mark claims)) = Some (Live size false claims)
added (Some (Staged size claims)) = Some (Live size false claims)
added (Some Doomed) = Some Doomed

abbrev pub marked : Bool → Option Slot → Option Slot
marked now None = None
marked now (Some (Live size mark claims)) = Some (Live size now claims)
marked now (Some (Staged size claims)) = Some (Staged size claims)
marked now (Some Doomed) = Some Doomed

abbrev pub removed : Option Slot → Option Slot
removed None = None
removed (Some (Live size mark claims)) = Some Doomed
removed (Some (Staged size claims)) = Some (Staged size claims)
removed (Some Doomed) = Some Doomed

abbrev pub turned : Turn → Option Slot → Option Slot
turned Add = added
turned Mark = marked true
turned Unmark = marked false
turned Remove = removed

-- the slots with these names' turned, one after the other
abbrev pub relisted : Turn → List PoolId → Slots → Slots
relisted turn [] slots = slots
relisted turn (id ∷ ids) slots = relisted turn ids (with_slot slots id (turned turn (slots id)))

abbrev pub AreAtMost : ℕ → Slots → Type 0
AreAtMost most slots = (id : PoolId) → claims_of (slots id) ≤ most
