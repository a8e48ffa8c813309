-- What a deletion says of the tables that it calls for, whatever the files stand for.
--     IsRead old new      files were read, and all stays
--     HasCalled told host lines numbers      the tables that the deletion of these numbers calls for are there
--     SaysOfTables old new p numbers result      what Ok says of them, and what Damaged says
--     HasHost old name result      both are said only if there is a host of the name
use Rattle.std.specs.Prelude.{⊤, ◌≡◌, ℕ, List, Option, Some, Result, Ok, Err, slice_get}
use Rattle.disk_trait.specs.declared.disk.Disk.{Ghosts as DiskGhosts}
use Rattle.disk_trait.specs.Files.{Files}
use Rattle.pool_name.specs.declared.namer.Namer.{Ghosts as NamerGhosts}
use Rattle.journal_view.specs.View.{told, Quiet}
use Rattle.backup_rules.specs.declared.lines.Line.{Line}
use Rattle.backup_index.specs.Index.{Index as HostIndex}
use Rattle.merge_view.specs.Views.{Rows}
use Rattle.backup_views.specs.Stored.{AreTableFiles}
use Rattle.backup_views.specs.Faults.{IsDamaged}
use Rattle.backup_delete.specs.Windows.{part, IsWindow}
use Rattle.office_catalog.specs.Known.{Known, host_named, names_of}
use Rattle.office_model.specs.declared.refusal.Refusal.{Refusal}
use Rattle.office_model.specs.declared.refusal.Refusal.TheVariants as R
use Rattle.store_parts.specs.declared.parts.StoreParts.{StoreParts}

-- a host of this name is here
pub record IsHostHere (known : Known) (name : List ℕ) : Type 0 where
  pub place : ℕ
  pub index : HostIndex
  pub named : Some place ≡ host_named (names_of known.hosts) name
  pub here : slice_get known.hosts place ≡ Some index

-- the tables of a window of these backups, which a deletion of these numbers touches, are there, each in its grammar
pub record HasCalled (told : Option Files) (host : ℕ) (lines : List Line) (numbers : List ℕ) : Type 0 where
  pub first : ℕ
  pub end : ℕ
  pub window : IsWindow numbers lines first end
  pub tables : List Rows
  pub there : (all : Files) → told ≡ Some all → AreTableFiles all host (part first end lines) tables

module _ {D N S : Type 0} {d : DiskGhosts D} {n : NamerGhosts N S} where
  -- the parts are as before, but for the journal, which is quiet
  pub record IsRead (old mid : StoreParts D N S d n) : Type 0 where
    pub quiet : Quiet old.journal mid.journal
    pub others : mid ≡ record old { journal = mid.journal }

  -- After Ok each table that was called for was there. Damaged is said of one of the host's tables that isn't, by what was found of
  -- it, and leaves all as it was.
  abbrev pub SaysOfTables : {A : Type 0} → (old new : StoreParts D N S d n) → ℕ → List ℕ → Result A Refusal → Type 0
  SaysOfTables old new p numbers (Ok done) = (index : HostIndex) → slice_get old.catalog.hosts p ≡ Some index
      → HasCalled (told old.journal) p index.lines numbers
  SaysOfTables old new p numbers (Err (R.Damaged file found)) =
      IsRead old new
      × ((index : HostIndex) → slice_get old.catalog.hosts p ≡ Some index → IsDamaged (told old.journal) p index.lines file found)
  SaysOfTables old new p numbers (Err refusal) = ⊤

  abbrev pub HasHost : {A : Type 0} → StoreParts D N S d n → List ℕ → Result A Refusal → Type 0
  HasHost old name (Ok done) = IsHostHere old.catalog name
  HasHost old name (Err (R.Damaged file found)) = IsHostHere old.catalog name
  HasHost old name (Err refusal) = ⊤
