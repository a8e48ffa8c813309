-- The names of a pool.
use Rattle.std.specs.Prelude.{ℕ, ◌+◌, ◌-◌, Bool, true, false, List, ◌∷◌, replicate, Option, Some, None, if◌then◌else◌, ◌==◌, not}
use Rattle.std.specs.BTreeMap.{BTreeMap, get}
use Rattle.disk_trait.specs.declared.ids.PoolId.{PoolId}
use Rattle.disk_trait.specs.declared.ids.FileId.TheVariants.{Pool, Stage}
use Rattle.disk_trait.specs.Images.{FileSet}
use Rattle.pool_index.specs.Items.{id_cmp, is_same_id}
pub use Rattle.pool_index.specs.ItemLaws.{one_id}
use Rattle.pool_changes.specs.declared.slot.Slot.{Slot}
use Rattle.pool_changes.specs.declared.slot.Slot.TheVariants.{Live, Staged, Doomed}

-- each name's slot, None where it is unused
abbrev pub Slots : Type 0
Slots = PoolId → Option Slot

-- the slots of a map
abbrev pub slots_in : BTreeMap PoolId Slot → Slots
slots_in map id = get id_cmp map id

-- the name of a digest and an extension
abbrev pub id_of : List ℕ → ℕ → PoolId
id_of digest extension = record { digest = digest; extension = extension }

-- the least and the greatest name of the digests that begin with a byte
abbrev pub least_of : ℕ → PoolId
least_of byte = id_of (byte ∷ replicate 15 0) 0

abbrev pub greatest_of : ℕ → PoolId
greatest_of byte = id_of (byte ∷ replicate 15 255) 65535

-- the slots with another one at a name
abbrev pub with_slot : Slots → PoolId → Option Slot → Slots
with_slot slots id slot asked = if is_same_id asked id then slot else slots asked

abbrev pub is_live : Option Slot → Bool
is_live None = false
is_live (Some (Live size mark claims)) = true
is_live (Some (Staged size claims)) = false
is_live (Some Doomed) = false

abbrev pub is_staged : Option Slot → Bool
is_staged None = false
is_staged (Some (Live size mark claims)) = false
is_staged (Some (Staged size claims)) = true
is_staged (Some Doomed) = false

abbrev pub is_doomed : Option Slot → Bool
is_doomed None = false
is_doomed (Some (Live size mark claims)) = false
is_doomed (Some (Staged size claims)) = false
is_doomed (Some Doomed) = true

-- live or staged
abbrev pub is_given : Option Slot → Bool
is_given None = false
is_given (Some (Live size mark claims)) = true
is_given (Some (Staged size claims)) = true
is_given (Some Doomed) = false

abbrev pub claims_of : Option Slot → ℕ
claims_of None = 0
claims_of (Some (Live size mark claims)) = claims
claims_of (Some (Staged size claims)) = claims
claims_of (Some Doomed) = 0

abbrev pub size_of : Option Slot → ℕ
size_of None = 0
size_of (Some (Live size mark claims)) = size
size_of (Some (Staged size claims)) = size
size_of (Some Doomed) = 0

-- one claim more
abbrev pub claimed : Option Slot → Option Slot
claimed None = None
claimed (Some (Live size mark claims)) = Some (Live size mark (claims + 1))
claimed (Some (Staged size claims)) = Some (Staged size (claims + 1))
claimed (Some Doomed) = Some Doomed

-- one claim less: a staged file that had no other is doomed
abbrev pub let_go : Option Slot → Option Slot
let_go None = None
let_go (Some (Live size mark claims)) = Some (Live size mark (claims - 1))
let_go (Some (Staged size claims)) = if claims == 1 then Some Doomed else Some (Staged size (claims - 1))
let_go (Some Doomed) = Some Doomed

-- the contents and stages that the index doesn't list
abbrev pub unlisted : Slots → FileSet
unlisted slots (Pool id) = not (is_live (slots id))
unlisted slots (Stage number) = true
unlisted slots file = false
