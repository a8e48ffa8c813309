-- The rows that a dump begins with.
--     newest_line lines      the line of the newest of a host's backups
--     has_base kind lines      whether there is what a dump of this kind begins with
--     IsBase given contents kind backups rows      the rows of the tree that it begins with
--     BeginsWith parts place kind rows      those of a dump of this host, in each office that the parts are at work with
--     TellsBase told place kind lines rows      the files tell the rows: none, or what the newest backup's table shows
--     IsBaseFault parts place refusal      a damaged file is that table
--     IsFaultOf parts place kind refusal      so it is of an incremental; a full dump is refused for a fault of the disk alone
use Rattle.std.specs.Prelude.{⊤, ◌≡◌, ℕ, ◌-◌, Bool, true, List, [], ◌∷◌, length, Option, Some, None, Ok, is_some, slice_get}
use Rattle.disk_trait.specs.declared.ids.PoolId.{PoolId}
use Rattle.disk_trait.specs.declared.ids.FileId.{FileId}
use Rattle.disk_trait.specs.declared.disk.Disk.{Ghosts as DiskGhosts}
use Rattle.disk_trait.specs.Files.{Files}
use Rattle.pool_name.specs.declared.namer.Namer.{Ghosts as NamerGhosts}
use Rattle.backup_rules.specs.declared.lines.Kind.{Kind}
use Rattle.backup_rules.specs.declared.lines.Kind.TheVariants.{Full, Incr}
use Rattle.backup_rules.specs.declared.lines.Line.{Line}
use Rattle.backup_views.specs.Faults.{IsDamaged}
use Rattle.backup_views.specs.Stored.{TellsTree}
use Rattle.backup_index.specs.Index.{Index}
use Rattle.journal_view.specs.View.{told}
use Rattle.merge_view.specs.Views.{Rows}
use Rattle.stored_trees.specs.Resolved.{resolved}
use Rattle.open_sessions.specs.Opened.{AreRowsOf}
use Rattle.office_model.specs.declared.refusal.Refusal.{Refusal}
use Rattle.office_model.specs.declared.refusal.Refusal.TheVariants as R
use Rattle.office_model.specs.Office.{Office, Host, Backup, Names}
use Rattle.office_model.specs.Parts.{lines_of}
use Rattle.office_model.specs.events.OpenDump as OpenDumpModel
use Rattle.office_files.specs.Pooled.{contents_of}
use Rattle.store_parts.specs.declared.parts.StoreParts.{StoreParts}
use Rattle.store_parts.specs.Held.{given}
use Rattle.store_parts.specs.States.{slots, IsRunning}

abbrev pub newest_line : List Line → Option Line
newest_line lines = slice_get lines (length lines - 1)

-- an incremental wants a backup
abbrev pub has_base : Kind → List Line → Bool
has_base Full lines = true
has_base Incr lines = is_some (newest_line lines)

-- the tree that the dump begins with is that of these whole rows, which name given ids
pub record IsBase (given : PoolId → Type 0) (contents : PoolId → List ℕ) (kind : Kind) (backups : List Backup) (rows : Rows) : Type 0 where
  pub is : OpenDumpModel.base_of kind backups ≡ Ok (resolved contents rows)
  pub rows_of : AreRowsOf given contents rows

-- ---- whatever the files hold

abbrev pub TellsNewest : Option Files → ℕ → Option Line → Rows → Type 0
TellsNewest told place None rows = rows ≡ []
TellsNewest told place (Some line) rows = (all : Files) → told ≡ Some all → TellsTree all place (line ∷ []) rows

abbrev pub TellsBase : Option Files → ℕ → Kind → List Line → Rows → Type 0
TellsBase told place Full lines rows = rows ≡ []
TellsBase told place Incr lines rows = TellsNewest told place (newest_line lines) rows

-- the newest backup's table is absent or in no table's grammar, and was found so
pub record IsNewestDamaged (told : Option Files) (place : ℕ) (lines : List Line) (file : FileId)
    (found : Option (List ℕ)) : Type 0 where
  pub line : Line
  pub is_line : newest_line lines ≡ Some line
  pub damaged : IsDamaged told place (line ∷ []) file found

module _ {D N S : Type 0} {d : DiskGhosts D} {n : NamerGhosts N S} where
  abbrev pub BeginsWith : StoreParts D N S d n → ℕ → Kind → Rows → Type 0
  BeginsWith parts place kind rows =
      (office : Office) (names : Names) (at : IsRunning parts office names) (host : Host) → slice_get office.hosts place ≡ Some host
      → has_base kind (lines_of host.backups) ≡ true → IsBase (given (slots parts)) (contents_of at.all) kind host.backups rows

  abbrev pub IsBaseFault : StoreParts D N S d n → ℕ → Refusal → Type 0
  IsBaseFault parts place (R.Damaged file found) = (index : Index) → slice_get parts.catalog.hosts place ≡ Some index
      → IsNewestDamaged (told parts.journal) place index.lines file found
  IsBaseFault parts place refusal = ⊤

  abbrev pub IsFaultOf : StoreParts D N S d n → ℕ → Kind → Refusal → Type 0
  IsFaultOf parts place Full refusal = refusal ≡ R.DiskFault
  IsFaultOf parts place Incr refusal = IsBaseFault parts place refusal
