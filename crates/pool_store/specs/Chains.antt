-- The names of one digest, and what their files hold.
use Rattle.std.specs.Prelude.{⊤, ◌≡◌, ℕ, ◌<◌, true, List, Option, Some, None, nat_lt, if◌then◌else◌}
use Rattle.disk_trait.specs.declared.ids.PoolId.{PoolId}
use Rattle.disk_trait.specs.declared.ids.FileId.TheVariants.{Pool}
use Rattle.disk_trait.specs.Files.{Files}
use Rattle.pool_store.specs.declared.fault.PoolFault.{PoolFault}
use Rattle.pool_store.specs.declared.fault.PoolFault.TheVariants.{Foreign, Disk, Memory, Damaged, ChainFull}
use Rattle.pool_store.specs.declared.chain.Met.{Met}
use Rattle.pool_store.specs.declared.chain.Met.TheVariants.{Same, Free, Full}
use Rattle.pool_changes.specs.Slots.{Slots, is_given, id_of}

-- no live or staged file of the digest with a lesser extension holds the content
abbrev pub AreOthers : Slots → List ℕ → Files → List ℕ → ℕ → Type 0
AreOthers slots digest all content bound =
    (extension : ℕ) → extension < bound → is_given (slots (id_of digest extension)) ≡ true
    → all (Pool (id_of digest extension)) ≡ Some content → ⊥

-- each lesser extension of the digest is used
abbrev pub AreUsed : Slots → List ℕ → ℕ → Type 0
AreUsed slots digest bound = (extension : ℕ) → extension < bound → slots (id_of digest extension) ≡ None → ⊥

-- the least unused extension of the digest
pub record IsFree (slots : Slots) (digest : List ℕ) (extension : ℕ) : Type 0 where
  pub unused : slots (id_of digest extension) ≡ None
  pub least : AreUsed slots digest extension

-- the least unused extension below a bound, if there is one
abbrev pub IsLeast : Slots → List ℕ → ℕ → Option ℕ → Type 0
IsLeast slots digest bound None = AreUsed slots digest bound
IsLeast slots digest bound (Some extension) = IsFree slots digest extension × (extension < bound)

-- the file that was found under the name isn't its content: it is absent, or has another digest
pub record IsDamaged (digest_of : List ℕ → List ℕ) (told : Option Files) (id : PoolId) (found : Option (List ℕ)) : Type 0 where
  pub there : (all : Files) → told ≡ Some all → found ≡ all (Pool id)
  pub wrong : (content : List ℕ) → found ≡ Some content → digest_of content ≡ id.digest → ⊥

-- the faults that a read of contents may have
abbrev pub OfReading : PoolFault → Type 0
OfReading (Foreign file found) = ⊥
OfReading Disk = ⊤
OfReading Memory = ⊤
OfReading (Damaged id found) = ⊤
OfReading ChainFull = ⊥

-- what a fault says of the files
abbrev pub SaysDamaged : (List ℕ → List ℕ) → Option Files → PoolFault → Type 0
SaysDamaged digest_of told fault = (id : PoolId) (found : Option (List ℕ)) → fault ≡ Damaged id found → IsDamaged digest_of told id found

-- what the files of a digest are to a content
abbrev pub IsMet : Slots → List ℕ → Option Files → List ℕ → Met → Type 0
IsMet slots digest told content (Same extension) =
    (is_given (slots (id_of digest extension)) ≡ true)
    × ((all : Files) → told ≡ Some all → all (Pool (id_of digest extension)) ≡ Some content)
IsMet slots digest told content (Free extension) =
    IsFree slots digest extension × ((all : Files) → told ≡ Some all → AreOthers slots digest all content 65536)
IsMet slots digest told content Full =
    AreUsed slots digest 65536 × ((all : Files) → told ≡ Some all → AreOthers slots digest all content 65536)

-- what the names of a digest are, whatever the content
abbrev pub IsPlace : Slots → List ℕ → Met → Type 0
IsPlace slots digest (Same extension) = is_given (slots (id_of digest extension)) ≡ true
IsPlace slots digest (Free extension) = IsFree slots digest extension
IsPlace slots digest Full = AreUsed slots digest 65536

-- a damaged file is one of a live or staged name
abbrev pub SaysGiven : Slots → PoolFault → Type 0
SaysGiven slots fault = (id : PoolId) (found : Option (List ℕ)) → fault ≡ Damaged id found → is_given (slots id) ≡ true

-- the least unused extension below the next, where `used` is the least used one from `at` on
abbrev pub freed : Option ℕ → ℕ → ℕ → Option ℕ
freed (Some extension) at used = Some extension
freed None at used = if nat_lt at used then Some at else None
