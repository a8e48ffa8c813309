-- What an opening says of any disk that tells its files, whether they stand for an office or not.
--     IsWhole      the files hold a pool, a catalog, counts and partials, and no other file is there
--     IsLast      they do, and the epoch is the last one
--     IsInBuckets      and the index of the pool is in buckets
--     KeepsData      the contents and stages of a disk are those of another
--     AreListed      the names in use are those of the Pool files
use Rattle.std.specs.Prelude.{◌≡◌, ◌↔◌, ◌≤◌, Bool, true, List, length, Option, Some, None, is_some}
use Rattle.disk_trait.specs.declared.ids.PoolId.{PoolId}
use Rattle.disk_trait.specs.declared.ids.FileId.{FileId}
use Rattle.disk_trait.specs.declared.ids.FileId.TheVariants.{Pool as PoolFile, PoolIndex, PoolBucket}
use Rattle.disk_trait.specs.declared.disk.Disk.{Ghosts as DiskGhosts}
use Rattle.disk_trait.specs.Files.{Files}
use Rattle.disk_trait.specs.Names.{is_data}
use Rattle.pool_name.specs.declared.namer.Namer.{Ghosts as NamerGhosts}
use Rattle.journal_view.specs.View.{told}
use Rattle.pool_index.specs.Items.{byte_of}
use Rattle.pool_changes.specs.Slots.{Slots}
use Rattle.pool_changes.specs.Kept.{slots_of}
use Rattle.pool_changes.specs.Listed.{index_of}
use Rattle.pool_store.specs.Opened.{Opens}
use Rattle.ref_counts.specs.Numbers.{Items}
use Rattle.host_counts.specs.Held.{AreTold}
use Rattle.host_partials.specs.declared.held.PartialHead.{PartialHead}
use Rattle.host_partials.specs.Held.{AreTold as ArePartialsTold}
use Rattle.office_catalog.specs.Known.{Known}
use Rattle.office_catalog.specs.Held.{HoldsCatalog}
use Rattle.office_model.specs.Office.{last_sequence}
use Rattle.office_model.specs.UsedNames.{Among}
use Rattle.store_parts.specs.declared.parts.StoreParts.{StoreParts}
use Rattle.store_opening.specs.declared.found.Found.{Found}
use Rattle.store_opening.specs.declared.fault.OpenRefusal.{OpenRefusal}
use Rattle.store_opening.specs.declared.fault.OpenRefusal.TheVariants.{EpochsSpent}
use Rattle.store_opening.specs.Strays.{HasNoStray}
use Rattle.store_opening.specs.Unlisted.{AreAllListed}
use Rattle.store_opening.specs.Tables.{HasTables}

-- the index of the pool, the catalog, the counts and what is known of partials are those that the files hold, the used names are those of
-- the Pool files, and no file is a stray; each content that the counts have is listed, and each table that a line calls for is there
pub record IsWhole (in_one_file : Bool) (slots : Slots) (catalog : Known) (counts : List Items) (partials : List (Option PartialHead))
    (all : Files) : Type 0 where
  pub pool : Opens in_one_file slots all
  pub holds : HoldsCatalog all catalog
  pub counted : AreTold all (length catalog.hosts) counts
  pub parked : ArePartialsTold all (length catalog.hosts) partials
  pub no_stray : HasNoStray catalog all
  pub listed : AreAllListed (index_of slots) counts
  pub tables : HasTables catalog all

-- the files of a store in its last epoch
pub record IsLast (all : Files) : Type 0 where
  pub in_one_file : Bool
  pub slots : Slots
  pub catalog : Known
  pub counts : List Items
  pub partials : List (Option PartialHead)
  pub whole : IsWhole in_one_file slots catalog counts partials all
  pub last : last_sequence ≤ catalog.epoch

-- the index of the pool is in buckets: the one file of older stores isn't there, and the bucket of each listed name is
pub record IsInBuckets (slots : Slots) (all : Files) : Type 0 where
  pub none : all PoolIndex ≡ None
  pub each : (id : PoolId) → is_some (index_of slots id) ≡ true → is_some (all (PoolBucket (byte_of id))) ≡ true

-- what EpochsSpent says of the files
abbrev pub SaysSpent : (told : Option Files) → OpenRefusal → Type 0
SaysSpent told refusal = refusal ≡ EpochsSpent → (all : Files) → told ≡ Some all → IsLast all

-- the contents and stages of a disk are those of another
abbrev pub KeepsData : (before now : Option Files) → Type 0
KeepsData before now =
    (all : Files) → before ≡ Some all
    → (after : Files) × (now ≡ Some after) × ((file : FileId) → is_data file ≡ true → after file ≡ all file)

-- the names in use are those of the Pool files
abbrev pub AreListed : List PoolId → Files → Type 0
AreListed used all = (id : PoolId) → Among used id ↔ (is_some (all (PoolFile id)) ≡ true)

module _ {N S : Type 0} {n : NamerGhosts N S} where
  -- what was found is what the files hold, where they are told
  abbrev pub IsAllOf : Option Files → Found N S n → Type 0
  IsAllOf told found =
      (all : Files) → told ≡ Some all
      → IsWhole found.pool.in_one_file (slots_of found.pool.names) found.catalog found.counts found.partials all

  -- and the index of its pool is in buckets there
  abbrev pub HasBucketsOf : Option Files → Found N S n → Type 0
  HasBucketsOf told found = (all : Files) → told ≡ Some all → IsInBuckets (slots_of found.pool.names) all

module _ {D N S : Type 0} {d : DiskGhosts D} {n : NamerGhosts N S} where
  -- and so what the parts have in memory
  abbrev pub HasAllOf : StoreParts D N S d n → Type 0
  HasAllOf parts =
      (all : Files) → told parts.journal ≡ Some all
      → IsWhole parts.pool.in_one_file (slots_of parts.pool.names) parts.catalog parts.counts parts.partials all

  -- and the index of their pool is in buckets there
  abbrev pub HasBuckets : StoreParts D N S d n → Type 0
  HasBuckets parts = (all : Files) → told parts.journal ≡ Some all → IsInBuckets (slots_of parts.pool.names) all
