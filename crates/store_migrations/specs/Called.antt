-- What a migration says of the files, whatever they stand for.
--     IsRead old new      files were read, and all stays
--     IsHostHere known name place index      the host of this name is here
--     HasMigrated old name new      its tables were there, and are of the second layout; if none was of the first, nothing was written
--     HasFoundDamaged old name file found new      one of its tables wasn't there, and nothing was done
--     SaysOfMigration old name result new      what Ok says, and what Damaged says
use Rattle.std.specs.Prelude.{⊤, ◌≡◌, ℕ, false, List, Option, Some, Ok, Err, slice_get}
use Rattle.disk_trait.specs.declared.ids.FileId.{FileId}
use Rattle.disk_trait.specs.declared.ids.FileId.TheVariants.{Table}
use Rattle.disk_trait.specs.declared.disk.Disk.{Ghosts as DiskGhosts}
use Rattle.disk_trait.specs.Files.{Files}
use Rattle.pool_name.specs.declared.namer.Namer.{Ghosts as NamerGhosts}
use Rattle.journal_view.specs.View.{told, Quiet}
use Rattle.backup_index.specs.Index.{Index as HostIndex}
use Rattle.backup_views.specs.Faults.{IsDamaged}
use Rattle.office_catalog.specs.Known.{Known, host_named, names_of}
use Rattle.office_files.specs.TableLayouts.{is_first_layout}
use Rattle.office_model.specs.declared.refusal.Refusal.TheVariants as R
use Rattle.office_model.specs.Meaning.{Reply}
use Rattle.store_parts.specs.declared.parts.StoreParts.{StoreParts}
use Rattle.store_migrations.specs.Migrated.{IsMigrated}

-- its place in the catalog, and its index
pub record IsHostHere (known : Known) (name : List ℕ) (place : ℕ) (index : HostIndex) : Type 0 where
  pub named : Some place ≡ host_named (names_of known.hosts) name
  pub here : slice_get known.hosts place ≡ Some index

module _ {D N S : Type 0} {d : DiskGhosts D} {n : NamerGhosts N S} where
  -- the parts are as before, but for the journal, which is quiet
  pub record IsRead (old new : StoreParts D N S d n) : Type 0 where
    pub quiet : Quiet old.journal new.journal
    pub others : new ≡ record old { journal = new.journal }

  -- over files that are told
  pub record HasMigrated (old : StoreParts D N S d n) (name : List ℕ) (new : StoreParts D N S d n) : Type 0 where
    pub place : ℕ
    pub index : HostIndex
    pub host : IsHostHere old.catalog name place index
    pub migrated : (all : Files) → told old.journal ≡ Some all
        → (after : Files) × (told new.journal ≡ Some after) × IsMigrated place index.lines all after
    pub still : (all : Files) → told old.journal ≡ Some all → ((number : ℕ) → is_first_layout (all (Table place number)) ≡ false)
        → IsRead old new

  pub record HasFoundDamaged (old : StoreParts D N S d n) (name : List ℕ) (file : FileId) (found : Option (List ℕ))
      (new : StoreParts D N S d n) : Type 0 where
    pub place : ℕ
    pub index : HostIndex
    pub host : IsHostHere old.catalog name place index
    pub damaged : IsDamaged (told old.journal) place index.lines file found
    pub read : IsRead old new

  abbrev pub SaysOfMigration : StoreParts D N S d n → List ℕ → Reply → StoreParts D N S d n → Type 0
  SaysOfMigration old name (Ok answer) new = HasMigrated old name new
  SaysOfMigration old name (Err (R.Damaged file found)) new = HasFoundDamaged old name file found new
  SaysOfMigration old name (Err refusal) new = ⊤
