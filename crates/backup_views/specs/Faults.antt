-- What a fault of reading a backup says of the files.
use Rattle.std.specs.Prelude.{◌≡◌, ℕ, List, Option, Some, slice_get}
use Rattle.disk_trait.specs.declared.ids.FileId.{FileId}
use Rattle.disk_trait.specs.declared.ids.FileId.TheVariants.{Table}
use Rattle.disk_trait.specs.Files.{Files}
use Rattle.backup_rules.specs.declared.lines.Line.{Line}
use Rattle.merge_view.specs.Views.{Rows}
use Rattle.backup_views.specs.declared.fault.ViewFault.{ViewFault}
use Rattle.backup_views.specs.declared.fault.ViewFault.TheVariants.{Damaged}
use Rattle.backup_views.specs.Stored.{IsTableFile}

-- what was found is what the files tell, and no table's
pub record IsNoTable (told : Option Files) (file : FileId) (found : Option (List ℕ)) : Type 0 where
  pub there : (all : Files) → told ≡ Some all → found ≡ all file
  pub none : (rows : Rows) → IsTableFile rows found → ⊥

-- of the backup of this host and number
abbrev pub SaysDamaged : Option Files → ℕ → ℕ → ViewFault → Type 0
SaysDamaged told host number fault =
    (file : FileId) (found : Option (List ℕ)) → fault ≡ Damaged file found → (file ≡ Table host number) × IsNoTable told file found

-- the file is the table of one of these backups, and no table's
pub record IsDamaged (told : Option Files) (host : ℕ) (lines : List Line) (file : FileId) (found : Option (List ℕ)) : Type 0 where
  pub index : ℕ
  pub line : Line
  pub is_line : slice_get lines index ≡ Some line
  pub file_is : file ≡ Table host line.number
  pub no_table : IsNoTable told file found

abbrev pub SaysOneDamaged : Option Files → ℕ → List Line → ViewFault → Type 0
SaysOneDamaged told host lines fault = (file : FileId) (found : Option (List ℕ)) → fault ≡ Damaged file found → IsDamaged told host lines file found
