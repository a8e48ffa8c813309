-- What a migration writes, and what has become of the files after it.
--     IsTableRead read found      what was found is the file of this table, in its layout
--     AreRead all host lines files      so each line's table
--     rewritten host number read      the change of one: none, if it is of the second layout
--     changes_of host lines files      those of all of them
--     IsPlanned told host lines changes      the changes are those of the tables that the files tell
--     IsMigrated host lines old new      each table is of the second layout and has the rows that it had; every other file stays
use Rattle.std.specs.Prelude.{⊤, ◌≡◌, ℕ, List, [], ◌∷◌, ◌++◌, Option, Some, slice_get}
use Rattle.disk_trait.specs.declared.ids.FileId.{FileId}
use Rattle.disk_trait.specs.declared.ids.FileId.TheVariants.{Table}
use Rattle.disk_trait.specs.Files.{Files}
use Rattle.intent_journal.specs.declared.changes.Change.{Change}
use Rattle.attr_tables.specs.declared.file.TableFile.{TableFile}
use Rattle.attr_tables.specs.declared.layouts.TableLayout.{TableLayout}
use Rattle.attr_tables.specs.declared.layouts.TableLayout.TheVariants.{First, Second}
use Rattle.attr_tables.specs.Layout.{IsTable}
use Rattle.attr_tables.specs.Tables.{table_file}
use Rattle.backup_rules.specs.declared.lines.Line.{Line}
use Rattle.backup_index.specs.Index.{Index as HostIndex}
use Rattle.merge_view.specs.Views.{Rows}
use Rattle.backup_views.specs.Stored.{IsTableFile}
use Rattle.backup_views.specs.Faults.{IsDamaged}
use Rattle.office_catalog.specs.Known.{Known}
use Rattle.office_model.specs.declared.refusal.Refusal.{Refusal}
use Rattle.office_model.specs.declared.refusal.Refusal.TheVariants as R

-- the file of a table, in the layout that was read
pub record IsTableRead (read : TableFile) (found : Option (List ℕ)) : Type 0 where
  pub fits : IsTable read.layout read.table
  pub is : found ≡ Some (table_file read.layout read.table)

abbrev pub AreRead : Files → ℕ → List Line → List TableFile → Type 0
AreRead all host [] [] = Unit {0}
AreRead all host [] (read ∷ files) = ⊥
AreRead all host (line ∷ lines) [] = ⊥
AreRead all host (line ∷ lines) (read ∷ files) = IsTableRead read (all (Table host line.number)) × AreRead all host lines files

-- by the layout that it has
abbrev pub rewritten_from : TableLayout → ℕ → ℕ → Rows → List Change
rewritten_from First host number rows = record { file = Table host number; bytes = Some (table_file Second rows) } ∷ []
rewritten_from Second host number rows = []

abbrev pub rewritten : ℕ → ℕ → TableFile → List Change
rewritten host number read = rewritten_from read.layout host number read.table

abbrev pub changes_of : ℕ → List Line → List TableFile → List Change
changes_of host [] files = []
changes_of host (line ∷ lines) [] = []
changes_of host (line ∷ lines) (read ∷ files) = rewritten host line.number read ++ changes_of host lines files

pub record IsPlanned (told : Option Files) (host : ℕ) (lines : List Line) (changes : List Change) : Type 0 where
  pub files : List TableFile
  pub are : changes ≡ changes_of host lines files
  pub there : (all : Files) → told ≡ Some all → AreRead all host lines files

-- the disk failed, memory was wanting, or the file is the table of one of the host's backups, and none of a table was found
abbrev pub IsPlanFault : Option Files → Known → ℕ → Refusal → Type 0
IsPlanFault told catalog host R.DiskFault = ⊤
IsPlanFault told catalog host R.Memory = ⊤
IsPlanFault told catalog host (R.Damaged file found) =
    (index : HostIndex) → slice_get catalog.hosts host ≡ Some index → IsDamaged told host index.lines file found
IsPlanFault told catalog host (R.Broken rule) = ⊥
IsPlanFault told catalog host R.Halted = ⊥

-- a table of these rows, in either layout, is one of the second
pub record IsMigratedTable (old new : Option (List ℕ)) : Type 0 where
  pub rows : Rows
  pub was : IsTableFile rows old
  pub fits : IsTable Second rows
  pub is : new ≡ Some (table_file Second rows)

-- the tables of these backups; no other file is another
pub record IsMigrated (host : ℕ) (lines : List Line) (old new : Files) : Type 0 where
  pub tables : (i : ℕ) (line : Line) → slice_get lines i ≡ Some line
      → IsMigratedTable (old (Table host line.number)) (new (Table host line.number))
  pub others : (file : FileId) → ((i : ℕ) (line : Line) → slice_get lines i ≡ Some line → file ≡ Table host line.number → ⊥)
      → new file ≡ old file
