-- What the reads of a backup say of the files, whatever these hold.
--     IsPlaced known name number      where a catalog has the backup of this name and number
--     ReadsTree parts name number rows      rows of the backup: of its view, if that was kept, else the tree that the files tell
--     TellsBackup parts name number rows      the tree that the files tell
--     IsTableFault parts host line refusal, IsBackupFault parts name number refusal      a damaged file is a table that is called for
--     IsReadReply reads damaged says reply      an answer is of such rows; a damaged file is a table that the backup calls for
--     IsContentOf digest_of told content result      the bytes of a content: those of its file, with the digest in its name
--     ListsRows, SaysNode, GivesFile      what List, Lookup and ReadFile answer from rows
use Rattle.std.specs.Prelude.{⊤, ◌≡◌, ◌⊎◌, ℕ, List, [], drop, take, Option, Some, None, Result, Ok, Err, slice_get}
use Rattle.disk_trait.specs.declared.ids.PoolId.{PoolId}
use Rattle.disk_trait.specs.declared.ids.FileId.{FileId}
use Rattle.disk_trait.specs.declared.ids.FileId.TheVariants.{Pool as PoolFile}
use Rattle.disk_trait.specs.declared.disk.Disk.{Ghosts as DiskGhosts}
use Rattle.disk_trait.specs.Files.{Files}
use Rattle.pool_name.specs.declared.namer.Namer.{Ghosts as NamerGhosts}
use Rattle.attr_records.specs.Trees.{node_at}
use Rattle.backup_rules.specs.declared.lines.Line.{Line}
use Rattle.backup_index.specs.Index.{Index}
use Rattle.backup_views.specs.Faults.{IsDamaged}
use Rattle.backup_views.specs.Kept.{AreRowsRead}
use Rattle.backup_views.specs.Stored.{TellsTree, depth_of}
use Rattle.journal_view.specs.View.{told}
use Rattle.merge_view.specs.Views.{Rows}
use Rattle.pool_store.specs.Chains.{IsDamaged as IsDamagedContent}
use Rattle.office_catalog.specs.Known.{Known, host_named, line_numbered, names_of}
use Rattle.office_model.specs.declared.answer.Answer.TheVariants.{Entries, Entry, Content}
use Rattle.tree_frames.specs.declared.nodes.Node.{Node}
use Rattle.office_model.specs.declared.refusal.Refusal.{Refusal}
use Rattle.office_model.specs.declared.refusal.Refusal.TheVariants as R
use Rattle.office_model.specs.Meaning.{Reply}
use Rattle.store_parts.specs.declared.parts.StoreParts.{StoreParts}
use Rattle.store_reads.specs.Shown.{node_told, content_told, list_told, entries_told}

-- ---- backups

pub record IsPlaced (known : Known) (name : List ℕ) (number : ℕ) : Type 0 where
  pub place : ℕ
  pub index : Index
  pub line : ℕ
  pub is_host : Some place ≡ host_named (names_of known.hosts) name
  pub is_index : slice_get known.hosts place ≡ Some index
  pub is_line : Some line ≡ line_numbered index.lines number

-- its line, and those of all newer backups of its host
abbrev pub lines_of : {known : Known} {name : List ℕ} {number : ℕ} → IsPlaced known name number → List Line
lines_of placed = drop placed.line placed.index.lines

module _ {D N S : Type 0} {d : DiskGhosts D} {n : NamerGhosts N S} where
  pub record ReadsTree (parts : StoreParts D N S d n) (name : List ℕ) (number : ℕ) (rows : Rows) : Type 0 where
    pub placed : IsPlaced parts.catalog name number
    pub read : (all : Files) → told parts.journal ≡ Some all → AreRowsRead parts.views all placed.place (lines_of placed) rows

  pub record TellsBackup (parts : StoreParts D N S d n) (name : List ℕ) (number : ℕ) (rows : Rows) : Type 0 where
    pub placed : IsPlaced parts.catalog name number
    pub tells : (all : Files) → told parts.journal ≡ Some all → TellsTree all placed.place (lines_of placed) rows

  -- a table that the backup calls for is absent or in no table's grammar, and was found so
  pub record HasDamagedTable (parts : StoreParts D N S d n) (name : List ℕ) (number : ℕ) (file : FileId)
      (found : Option (List ℕ)) : Type 0 where
    pub placed : IsPlaced parts.catalog name number
    pub damaged : IsDamaged (told parts.journal) placed.place (take (depth_of (lines_of placed)) (lines_of placed)) file found

  -- so is a table that the backup at this line of this host calls for
  abbrev pub IsTableFault : StoreParts D N S d n → ℕ → ℕ → Refusal → Type 0
  IsTableFault parts host line (R.Damaged file found) = (index : Index) → slice_get parts.catalog.hosts host ≡ Some index
      → IsDamaged (told parts.journal) host (take (depth_of (drop line index.lines)) (drop line index.lines)) file found
  IsTableFault parts host line refusal = ⊤

  abbrev pub IsBackupFault : StoreParts D N S d n → List ℕ → ℕ → Refusal → Type 0
  IsBackupFault parts name number (R.Damaged file found) = HasDamagedTable parts name number file found
  IsBackupFault parts name number refusal = ⊤

-- an answer is what rows say; a damaged file is a table, or what rows call for
abbrev pub IsReadReply : (Rows → Type 0) → (FileId → Option (List ℕ) → Type 0) → (Rows → Reply → Type 0) → Reply → Type 0
IsReadReply reads damaged says (Ok answer) = (rows : Rows) × reads rows × says rows (Ok answer)
IsReadReply reads damaged says (Err (R.Damaged file found)) =
    damaged file found ⊎ ((rows : Rows) × reads rows × says rows (Err (R.Damaged file found)))
IsReadReply reads damaged says (Err refusal) = ⊤

-- ---- contents

-- the file of the id is there with these bytes, whose digest is that of the id
pub record HoldsContent (digest_of : List ℕ → List ℕ) (told : Option Files) (id : PoolId) (bytes : List ℕ) : Type 0 where
  pub there : (all : Files) → told ≡ Some all → all (PoolFile id) ≡ Some bytes
  pub digest : digest_of bytes ≡ id.digest

-- or it is absent or has bytes of another digest, and was found so; without an id there is nothing to be read
abbrev pub IsContentOf : (List ℕ → List ℕ) → Option Files → Option PoolId → Result (List ℕ) Refusal → Type 0
IsContentOf digest_of told None (Ok bytes) = bytes ≡ []
IsContentOf digest_of told None (Err refusal) = ⊥
IsContentOf digest_of told (Some id) (Ok bytes) = HoldsContent digest_of told id bytes
IsContentOf digest_of told (Some id) (Err (R.Damaged file found)) = (file ≡ PoolFile id) × IsDamagedContent digest_of told id found
IsContentOf digest_of told (Some id) (Err R.DiskFault) = ⊤
IsContentOf digest_of told (Some id) (Err R.Memory) = ⊤
IsContentOf digest_of told (Some id) (Err refusal) = ⊥

-- ---- answers

abbrev pub ListsRows : Option (List ℕ) → Rows → Reply → Type 0
ListsRows directory rows (Ok answer) = (list_told rows directory ≡ None) × (answer ≡ Entries (entries_told directory rows))
ListsRows directory rows (Err refusal) = ⊥

abbrev pub SaysNode : List ℕ → Rows → Reply → Type 0
SaysNode path rows (Ok answer) = (node : Node) × (node_told (node_at rows path) ≡ Ok node) × (answer ≡ Entry node)
SaysNode path rows (Err refusal) = ⊥

-- the content of the file at a path was read
pub record GivesBytes (digest_of : List ℕ → List ℕ) (told : Option Files) (path : List ℕ) (rows : Rows)
    (result : Result (List ℕ) Refusal) : Type 0 where
  pub content : Option PoolId
  pub is_content : content_told (node_at rows path) ≡ Ok content
  pub read : IsContentOf digest_of told content result

abbrev pub GivesFile : (List ℕ → List ℕ) → Option Files → List ℕ → Rows → Reply → Type 0
GivesFile digest_of told path rows (Ok answer) =
    (bytes : List ℕ) × (answer ≡ Content bytes) × GivesBytes digest_of told path rows (Ok bytes)
GivesFile digest_of told path rows (Err refusal) = GivesBytes digest_of told path rows (Err refusal)
