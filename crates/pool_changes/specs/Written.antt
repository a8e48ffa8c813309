-- The files of the index that a change of it writes.
use Rattle.std.specs.Prelude.{◌≡◌, ◌⊎◌, ℕ, ◌<◌, Bool, true, false, List, is_some}
use Rattle.disk_trait.specs.declared.ids.PoolId.{PoolId}
use Rattle.disk_trait.specs.declared.ids.FileId.{FileId}
use Rattle.disk_trait.specs.declared.ids.FileId.TheVariants.{PoolIndex, PoolBucket}
use Rattle.disk_trait.specs.Files.{Files}
use Rattle.intent_journal.specs.declared.changes.Change.{Change}
use Rattle.intent_journal.specs.Changes.{applied, names, AreChanges}
use Rattle.pool_index.specs.Items.{byte_of}
use Rattle.pool_index.specs.Index.{Index, TellsIn, TellsBuckets}

-- the name's byte gets a file: from buckets because its item changed, and from one file because it has an item
abbrev pub Calls : (in_one_file : Bool) → (old new : Index) → PoolId → Type 0
Calls true old new id = is_some (new id) ≡ true
Calls false old new id = old id ≡ new id → ⊥

-- an item of the byte calls for its file
pub record IsCalled (in_one_file : Bool) (old new : Index) (byte : ℕ) : Type 0 where
  pub id : PoolId
  pub under : byte_of id ≡ byte
  pub calls : Calls in_one_file old new id

-- the files that a change of the index writes or removes: those of bytes that are called for, and the one file
abbrev pub IsIndexFile : (in_one_file : Bool) → (old new : Index) → FileId → Type 0
IsIndexFile in_one_file old new file =
    ((file ≡ PoolIndex) × (in_one_file ≡ true)) ⊎ ((byte : ℕ) × (byte < 256) × (file ≡ PoolBucket byte) × IsCalled in_one_file old new byte)

-- a commit of these changes leads from files that tell one index to files that tell another, in buckets, and writes no
-- file but those of the index that change
pub record LeadsIndex (in_one_file : Bool) (old new : Index) (changes : List Change) : Type 0 where
  pub are : AreChanges changes
  pub leads : (files : Files) → TellsIn in_one_file old files → TellsBuckets new (applied changes files)
  pub only : (file : FileId) → names changes file ≡ true → IsIndexFile in_one_file old new file
