-- What the calls of a pool do to names, files and images.
--     Takes      a content got its name
--     Misses      it got none
use Rattle.std.specs.Prelude.{⊤, ◌≡◌, ◌⊎◌, ◌<◌, ℕ, true, false, List, Option, Some, length}
use Rattle.disk_trait.specs.declared.ids.PoolId.{PoolId}
use Rattle.disk_trait.specs.declared.ids.FileId.TheVariants.{Pool}
use Rattle.disk_trait.specs.Files.{Files, changed, SameButOne}
use Rattle.disk_trait.specs.Images.{FileSet}
use Rattle.pool_changes.specs.declared.slot.Slot.TheVariants.{Staged, Doomed}
use Rattle.pool_store.specs.declared.fault.PoolFault.{PoolFault}
use Rattle.pool_store.specs.declared.fault.PoolFault.TheVariants.{Foreign, Disk, Memory, Damaged, ChainFull}
use Rattle.pool_changes.specs.Slots.{Slots, is_live, is_given, claimed, id_of}
use Rattle.pool_changes.specs.Kept.{IsSet, IsSame}
use Rattle.pool_store.specs.Chains.{AreOthers, AreUsed, IsFree}

-- the faults that taking a content in may have
abbrev pub IsNotForeign : PoolFault → Type 0
IsNotForeign (Foreign file found) = ⊥
IsNotForeign Disk = ⊤
IsNotForeign Memory = ⊤
IsNotForeign (Damaged id found) = ⊤
IsNotForeign ChainFull = ⊤

-- the files of the index are durable
abbrev pub IsCertain : Slots → FileSet → Type 0
IsCertain slots uncertain = (id : PoolId) → is_live (slots id) ≡ true → uncertain (Pool id) ≡ false

-- the content stood under the name, which has one claim more
pub record Matches (old new : Slots) (told told' : Option Files) (id : PoolId) (content : List ℕ) : Type 0 where
  pub given : is_given (old id) ≡ true
  pub holds : (all : Files) → told ≡ Some all → all (Pool id) ≡ Some content
  pub set : IsSet old new id (claimed (old id))
  pub same : told' ≡ told

-- no live or staged file holds it: it was staged under the least unused extension of its digest
pub record Adds (old new : Slots) (told told' : Option Files) (id : PoolId) (content : List ℕ) : Type 0 where
  pub near : id.extension < 65536
  pub free : IsFree old id.digest id.extension
  pub others : (all : Files) → told ≡ Some all → AreOthers old id.digest all content 65536
  pub set : IsSet old new id (Some (Staged (length content) 1))
  pub told_is : told' ≡ changed told (Pool id) (Some content)

pub record Takes (digest_of : List ℕ → List ℕ) (old new : Slots) (told told' : Option Files) (id : PoolId) (content : List ℕ) : Type 0 where
  pub digest : id.digest ≡ digest_of content
  pub either : Matches old new told told' id content ⊎ Adds old new told told' id content

-- nothing was done, or the write of the stage failed and its name is doomed
abbrev pub IsUnstaged : (old new : Slots) → (told told' : Option Files) → PoolId → Type 0
IsUnstaged old new told told' id = (IsSame old new × (told' ≡ told)) ⊎ (IsSet old new id (Some Doomed) × SameButOne (Pool id) told told')

-- No live or staged file holds the content, and each of the 65,536 names of its digest is used.
pub record IsFull (digest : List ℕ) (slots : Slots) (told : Option Files) (content : List ℕ) : Type 0 where
  pub used : AreUsed slots digest 65536
  pub others : (all : Files) → told ≡ Some all → AreOthers slots digest all content 65536

-- It got no name: nothing was done, or no live or staged file holds it and the least unused extension of its digest is doomed.
pub record Misses (digest_of : List ℕ → List ℕ) (old new : Slots) (told told' : Option Files) (content : List ℕ)
    (fault : PoolFault) : Type 0 where
  pub either : (IsSame old new × (told' ≡ told))
      ⊎ ((extension : ℕ) × (extension < 65536) × IsFree old (digest_of content) extension
      × ((all : Files) → told ≡ Some all → AreOthers old (digest_of content) all content 65536)
      × IsUnstaged old new told told' (id_of (digest_of content) extension))
  pub full : fault ≡ ChainFull → IsFull (digest_of content) old told content
