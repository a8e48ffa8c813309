-- Steps of writing the index behind a change of it.
--     layered      slots with others over them
--     IsByteChange      what a change does with the file of a byte
--     IsWrittenUpTo      the files of the bytes below a bound are among the changes
use Rattle.std.specs.Prelude.{◌≡◌, ◌⊎◌, ℕ, ◌<◌, Bool, true, false, List, [], ◌∷◌, Option, Some, None, is_some}
use Rattle.std.specs.List.{AllByRecursion}
use Rattle.disk_trait.specs.declared.ids.PoolId.{PoolId}
use Rattle.disk_trait.specs.declared.ids.FileId.{FileId}
use Rattle.disk_trait.specs.declared.ids.FileId.TheVariants.{PoolIndex, PoolBucket}
use Rattle.disk_trait.specs.Files.{Files}
use Rattle.intent_journal.specs.declared.changes.Change.{Change}
use Rattle.intent_journal.specs.Changes.{applied, names, AreChanges}
use Rattle.pool_index.specs.declared.item.IndexItem.{IndexItem}
use Rattle.pool_index.specs.Items.{byte_of, item_at, is_under, AreRising}
use Rattle.pool_index.specs.Index.{Index, TellsByte}
use Rattle.pool_changes.specs.declared.slot.Slot.{Slot}
use Rattle.pool_changes.specs.Slots.{Slots}
use Rattle.pool_changes.specs.Written.{IsCalled}

-- none or one
abbrev pub option_list : {X : Type 0} → Option X → List X
option_list None = []
option_list (Some x) = x ∷ []

-- the change with which a conversion begins
abbrev pub first_changes : Bool → List Change
first_changes true = record { file = PoolIndex; bytes = None } ∷ []
first_changes false = []

-- the first, or else the second
abbrev pub slot_or : Option Slot → Option Slot → Option Slot
slot_or (Some slot) other = Some slot
slot_or None other = other

-- the slots with others over them
abbrev pub layered : (under over : Slots) → Slots
layered under over id = slot_or (over id) (under id)

-- what lies over is of used names
abbrev pub IsOver : (under over : Slots) → Type 0
IsOver under over = (id : PoolId) → is_some (over id) ≡ true → is_some (under id) ≡ true

-- the items that an index has under a byte, in order
pub record AreUnder (byte : ℕ) (index : Index) (items : List IndexItem) : Type 0 where
  pub rising : AreRising items
  pub under : AllByRecursion (λ item. is_under (Some byte) item.id ≡ true) items
  pub sized : AllByRecursion (λ item. 0 < item.size) items
  pub each : (id : PoolId) → byte_of id ≡ byte → index id ≡ item_at items id

-- two indices agree under a byte
abbrev pub AreAlikeUnder : ℕ → (old new : Index) → Type 0
AreAlikeUnder byte old new = (id : PoolId) → byte_of id ≡ byte → old id ≡ new id

-- the file of a byte stays: nothing changed under it, or, from one file, nothing is there
abbrev pub Stays : (in_one_file : Bool) → (old new : Index) → ℕ → Type 0
Stays true old new byte = (id : PoolId) → byte_of id ≡ byte → new id ≡ None
Stays false old new byte = AreAlikeUnder byte old new

-- the file of a byte, None exactly if nothing is there
pub record IsFileOf (byte : ℕ) (index : Index) (bytes : Option (List ℕ)) : Type 0 where
  pub tells : TellsByte byte index bytes
  pub none : bytes ≡ None → (id : PoolId) → byte_of id ≡ byte → index id ≡ None
  pub some : is_some bytes ≡ true → (id : PoolId) × (byte_of id ≡ byte) × (is_some (index id) ≡ true)

-- the change of the file of a byte
pub record IsWritten (in_one_file : Bool) (old new : Index) (byte : ℕ) (change : Change) : Type 0 where
  pub file_is : change.file ≡ PoolBucket byte
  pub tells : TellsByte byte new change.bytes
  pub called : IsCalled in_one_file old new byte

-- the change of the file of a byte, or None where it stays
abbrev pub IsByteChange : (in_one_file : Bool) → (old new : Index) → ℕ → Option Change → Type 0
IsByteChange in_one_file old new byte None = Stays in_one_file old new byte
IsByteChange in_one_file old new byte (Some change) = IsWritten in_one_file old new byte change

-- the changes leave the file of a byte as it has to stay, or make it what tells the new index
abbrev pub IsDone : (in_one_file : Bool) → (old new : Index) → List Change → ℕ → Type 0
IsDone in_one_file old new changes byte =
    ((names changes (PoolBucket byte) ≡ false) × Stays in_one_file old new byte)
    ⊎ ((bytes : Option (List ℕ)) × TellsByte byte new bytes × ((files : Files) → applied changes files (PoolBucket byte) ≡ bytes))

-- the changes of the one file, if there is one, and of the files of the bytes below a bound
pub record IsWrittenUpTo (in_one_file : Bool) (old new : Index) (changes : List Change) (bound : ℕ) : Type 0 where
  pub are : AreChanges changes
  pub gone : in_one_file ≡ true → (files : Files) → applied changes files PoolIndex ≡ None
  pub each : (byte : ℕ) → byte < bound → IsDone in_one_file old new changes byte
  pub only : (file : FileId) → names changes file ≡ true
      → ((file ≡ PoolIndex) × (in_one_file ≡ true)) ⊎ ((byte : ℕ) × (byte < bound) × (file ≡ PoolBucket byte) × IsCalled in_one_file old new byte)
