-- What a restore tells and gives since a base, and where the rows of the base are read.
--     removed_since older rows      the rows whose removal is told: none without a base
--     rows_since older rows      the rows whose entries are given: all without a base
--     TellsBase parts name base older      the rows of the base that the files tell, if one is named
--     HasDamagedBase parts name base file found      a table that the base calls for is damaged
--     IsBaseFault parts name base refusal      a damaged file is such a table
--     ShowsBase given contents hosts name base older      the base's tree is that of the rows, if one is named
--     IsBaseLoaded parts name base older      in each office that the parts are at work with
use Rattle.std.specs.Prelude.{⊤, ◌≡◌, ℕ, List, [], Option, Some, None, Ok}
use Rattle.disk_trait.specs.declared.ids.FileId.{FileId}
use Rattle.disk_trait.specs.declared.ids.PoolId.{PoolId}
use Rattle.disk_trait.specs.declared.disk.Disk.{Ghosts as DiskGhosts}
use Rattle.pool_name.specs.declared.namer.Namer.{Ghosts as NamerGhosts}
use Rattle.attr_records.specs.Items.{Tree}
use Rattle.attr_tables.specs.Records.{is_dir, is_same_record}
use Rattle.change_laws.specs.Changes.{topmost, lost_rows, changed_rows}
use Rattle.merge_view.specs.Views.{Rows, IsWhole}
use Rattle.pool_changes.specs.Listed.{index_of}
use Rattle.stored_trees.specs.Resolved.{resolved, AreTold}
use Rattle.office_model.specs.declared.refusal.Refusal.{Refusal}
use Rattle.office_model.specs.declared.refusal.Refusal.TheVariants as R
use Rattle.office_model.specs.Office.{Office, Host, Names}
use Rattle.office_model.specs.events.OpenRead.{base_of}
use Rattle.office_files.specs.Pooled.{contents_of, IsListed}
use Rattle.store_parts.specs.declared.parts.StoreParts.{StoreParts}
use Rattle.store_parts.specs.States.{slots, IsRunning}
use Rattle.store_reads.specs.Told.{TellsBackup, HasDamagedTable}

-- ---- rows

abbrev pub removed_since : Option Rows → Rows → Rows
removed_since None rows = []
removed_since (Some older) rows = topmost (lost_rows is_dir rows older)

abbrev pub rows_since : Option Rows → Rows → Rows
rows_since None rows = rows
rows_since (Some older) rows = changed_rows is_same_record rows older

-- ---- files

module _ {D N S : Type 0} {d : DiskGhosts D} {n : NamerGhosts N S} where
  abbrev pub TellsBase : StoreParts D N S d n → List ℕ → Option ℕ → Option Rows → Type 0
  TellsBase parts name None None = ⊤
  TellsBase parts name None (Some rows) = ⊥
  TellsBase parts name (Some number) None = ⊥
  TellsBase parts name (Some number) (Some rows) = TellsBackup parts name number rows

  abbrev pub HasDamagedBase : StoreParts D N S d n → List ℕ → Option ℕ → FileId → Option (List ℕ) → Type 0
  HasDamagedBase parts name None file found = ⊥
  HasDamagedBase parts name (Some number) file found = HasDamagedTable parts name number file found

  abbrev pub IsBaseFault : StoreParts D N S d n → List ℕ → Option ℕ → Refusal → Type 0
  IsBaseFault parts name base (R.Damaged file found) = HasDamagedBase parts name base file found
  IsBaseFault parts name base refusal = ⊤

-- ---- offices

module _ (given : PoolId → Type 0) (contents : PoolId → List ℕ) where
  -- whole rows that name given ids
  abbrev pub AreBaseRows : Option Tree → Option Rows → Type 0
  AreBaseRows None None = ⊤
  AreBaseRows None (Some rows) = ⊥
  AreBaseRows (Some tree) None = ⊥
  AreBaseRows (Some tree) (Some rows) = (tree ≡ resolved contents rows) × IsWhole rows × AreTold given contents rows

  pub record ShowsBase (hosts : List Host) (name : List ℕ) (base : Option ℕ) (older : Option Rows) : Type 0 where
    pub tree : Option Tree
    pub is : base_of hosts name base ≡ Ok tree
    pub rows : AreBaseRows tree older

module _ {D N S : Type 0} {d : DiskGhosts D} {n : NamerGhosts N S} where
  abbrev pub IsBaseLoaded : StoreParts D N S d n → List ℕ → Option ℕ → Option Rows → Type 0
  IsBaseLoaded parts name base older =
      (office : Office) (names : Names) → (at : IsRunning parts office names)
      → ShowsBase (IsListed (index_of (slots parts))) (contents_of at.all) office.hosts name base older
