-- What a deletion of backups is planned to do, as memory and the files tell it.
--     left_index, left_host, left_shown      a host without the backups of these numbers
--     IsHostAtWork      the files stand for a host, whose index and counts are in memory
--     IsPlanned      the plan of a deletion
--     IsPlanFault      what a refusal of a plan says
use Rattle.std.specs.Prelude.{⊤, ◌≡◌, ℕ, ◌≤◌, false, List, Option, Some, IfSome, slice_get}
use Rattle.disk_trait.specs.declared.ids.FileId.{FileId}
use Rattle.disk_trait.specs.Files.{Files}
use Rattle.intent_journal.specs.Changes.{applied, AreChanges}
use Rattle.backup_index.specs.Index.{Index as HostIndex}
use Rattle.backup_views.specs.Faults.{IsDamaged}
use Rattle.pool_index.specs.Index.{Index}
use Rattle.ref_counts.specs.Numbers.{Items}
use Rattle.ref_counts.specs.Stored.{StoredHost}
use Rattle.backup_delete.specs.Folds.{left_lines}
use Rattle.office_model.specs.Office.{Host, Partial, IsTree, AreNumbered, number_limit}
use Rattle.office_model.specs.Parts.{lines_of}
use Rattle.office_model.specs.declared.refusal.Refusal.{Refusal}
use Rattle.office_model.specs.declared.refusal.Refusal.TheVariants as R
use Rattle.office_catalog.specs.Known.{Known, with_change, given_lines}
use Rattle.office_catalog.specs.Held.{HoldsCatalog}
use Rattle.office_catalog.specs.Changed.{after, IsFor}
use Rattle.office_files.specs.Hosts.{index_of_host, StandsHost}
use Rattle.office_files.specs.Pooled.{contents_of, IsListed}
use Rattle.office_files.specs.TableLayouts.{WriteNoFirst}
use Rattle.office_changes.specs.ChangeLaws.{is_of_host}
use Rattle.office_deletion.specs.DeletionLaws.{left_backups, shortened, IsDeletion}
use Rattle.store_parts.specs.Held.{AreCounts}
use Rattle.store_deletions.specs.declared.plan.DeletionPlan.{DeletionPlan}

-- the index without the lines of these numbers
abbrev pub left_index : List ℕ → HostIndex → HostIndex
left_index numbers index = given_lines index.next (left_lines numbers index.lines) index

-- the host without the backups of these numbers
abbrev pub left_host : List ℕ → Host → Host
left_host numbers host = record host { backups = left_backups numbers host.backups }

-- what is stored of it then
abbrev pub left_shown : List ℕ → Host → StoredHost → StoredHost
left_shown numbers host of = shortened numbers (lines_of host.backups) of

-- The files stand for a host of sound numbers and a sound partial, by what is stored of it; they hold the catalog, which has the
-- host's index, and the host's counts are the numbers of its tables and its partial.
pub record IsHostAtWork (pool : Index) (catalog : Known) (counts : Items) (all : Files) (number : ℕ) (host : Host)
    (of : StoredHost) : Type 0 where
  pub stands : StandsHost (IsListed pool) (contents_of all) all number host of
  pub holds : HoldsCatalog all catalog
  pub index : slice_get catalog.hosts number ≡ Some (index_of_host number host)
  pub numbered : AreNumbered host.next host.backups
  pub few : host.next ≤ number_limit
  pub partial : IfSome host.partial (λ (partial : Partial). IsTree partial.tree)
  pub counted : AreCounts counts of

-- The plan of a deletion of the backups of these numbers from a host of the catalog, by its counts and what the journal tells.
pub record IsPlanned (catalog : Known) (told : Option Files) (counts : Items) (number : ℕ) (numbers : List ℕ) (plan : DeletionPlan)
    : Type 0 where
  -- the catalog's change may be made, and leaves the other lines
  pub fits : IsFor catalog plan.catalog
  pub known : after plan.catalog catalog ≡ with_change catalog number (left_index numbers)
  -- the changes name metadata files of the host, none twice
  pub are : AreChanges plan.changes
  pub others : (all : Files) (file : FileId) → is_of_host number file ≡ false → applied plan.changes all file ≡ all file
  -- and write no table of the first layout
  pub second : WriteNoFirst plan.changes
  -- if the files that are told stand for the host, they have the deletion after the changes
  pub deletes : (pool : Index) (all : Files) (host : Host) (of : StoredHost) → told ≡ Some all
      → IsHostAtWork pool catalog counts all number host of
      → IsDeletion numbers all (applied plan.changes all) number host (left_host numbers host) of
  -- and the counts are the numbers of the tables that are left, and of the partial
  pub counted : (pool : Index) (all : Files) (host : Host) (of : StoredHost) → told ≡ Some all
      → IsHostAtWork pool catalog counts all number host of → AreCounts plan.counts (left_shown numbers host of)

-- The disk failed, memory was wanting, or the file is the table of one of the host's backups, and none of a table was found.
abbrev pub IsPlanFault : Option Files → Known → ℕ → Refusal → Type 0
IsPlanFault told catalog number R.DiskFault = ⊤
IsPlanFault told catalog number R.Memory = ⊤
IsPlanFault told catalog number (R.Damaged file found) =
    (index : HostIndex) → slice_get catalog.hosts number ≡ Some index → IsDamaged told number index.lines file found
IsPlanFault told catalog number (R.Broken rule) = ⊥
IsPlanFault told catalog number R.Halted = ⊥
