-- Which files of a store are damaged, by what a disk tells of them.
--     IsDamagedTable told file      a backup's table is absent, or no table
--     IsDamagedPartial told file      the file of a host's partial is absent, or holds none of it
--     IsStageFile file      the file is a stage's, which is of no worth behind a restart
--     IsDamagedFile told file      one of these
--     IsDamagedContent digest_of told file      a content isn't what its name and the row that has it say
--     IsDamagedRead digest_of told file      a table or a content: what a restore calls for
use Rattle.std.specs.Prelude.{◌≡◌, ◌⊎◌, ℕ, ◌≤◌, List, length, take, Option, Some, slice_get}
use Rattle.disk_trait.specs.declared.ids.FileId.{FileId}
use Rattle.disk_trait.specs.declared.ids.FileId.TheVariants.{Table, Pool as PoolFile, Stage as StageFile}
use Rattle.disk_trait.specs.declared.ids.PoolId.{PoolId}
use Rattle.disk_trait.specs.Files.{Files}
use Rattle.attr_tables.specs.declared.records.Record.TheVariants as R
use Rattle.attr_tables.specs.declared.records.StoredFile.{StoredFile}
use Rattle.backup_rules.specs.declared.lines.Line.{Line}
use Rattle.merge_view.specs.Views.{Rows}
use Rattle.backup_views.specs.Faults.{IsNoTable}
use Rattle.backup_views.specs.Stored.{TellsTree}
use Rattle.store_parts.specs.Parked.{IsNoPartial}

-- the file is a backup's table, and what these files tell of it, that it is absent too, is no table's
pub record IsDamagedTable (told : Option Files) (file : FileId) : Type 0 where
  pub host : ℕ
  pub number : ℕ
  pub file_is : file ≡ Table host number
  pub found : Option (List ℕ)
  pub no_table : IsNoTable told file found

-- the file is that of a host's partial, and what these files tell of it is none of that host
pub record IsDamagedPartial (told : Option Files) (file : FileId) : Type 0 where
  pub host : ℕ
  pub found : Option (List ℕ)
  pub no_partial : IsNoPartial told host file found

pub record IsStageFile (file : FileId) : Type 0 where
  pub number : ℕ
  pub file_is : file ≡ StageFile number

abbrev pub IsDamagedFile : Option Files → FileId → Type 0
IsDamagedFile told file = IsDamagedTable told file ⊎ (IsDamagedPartial told file ⊎ IsStageFile file)

-- A row of a tree that these files tell is a file with this content. The content's file is absent, or has fewer bytes than the row says,
-- or the digest of so many isn't the one in its name.
pub record IsDamagedContent (digest_of : List ℕ → List ℕ) (told : Option Files) (file : FileId) : Type 0 where
  pub host : ℕ
  pub lines : List Line
  pub rows : Rows
  pub tells : (all : Files) → told ≡ Some all → TellsTree all host lines rows
  pub row : ℕ
  pub path : List ℕ
  pub stored : StoredFile
  pub is_row : slice_get rows row ≡ Some (path, R.File stored)
  pub id : PoolId
  pub content_is : stored.content ≡ Some id
  pub file_is : file ≡ PoolFile id
  pub damaged : (all : Files) (bytes : List ℕ) → told ≡ Some all → all file ≡ Some bytes → stored.size ≤ length bytes
      → digest_of (take stored.size bytes) ≡ id.digest → ⊥

abbrev pub IsDamagedRead : (List ℕ → List ℕ) → Option Files → FileId → Type 0
IsDamagedRead digest_of told file = IsDamagedTable told file ⊎ IsDamagedContent digest_of told file
