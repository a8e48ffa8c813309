-- What a read of a backup finds, and how it is refused.
--     ShowsBackup given contents hosts name number rows      the tree of the backup of this name and number is that of the rows
--     IsLoaded parts name number rows      in each office that the parts are at work with
--     IsTreeAt parts host line tree      the tree is that of the backup at this line of this host
--     node_told, file_told, content_told, list_told, entries_told      what rows say to Lookup, OpenFile, ReadFile and List
--     IsRefusal parts judged refusal      a rule that is broken there, or a fault
--     Looks old new      files were read, and the parts are as before
--     Answers judged reply      what was judged, or want of memory
use Rattle.std.specs.Prelude.{⊤, ◌≡◌, ℕ, List, [], ◌∷◌, Option, Some, None, Result, Ok, Err, option_map, slice_get, nat_lt, if◌then◌else◌}
use Rattle.disk_trait.specs.declared.ids.PoolId.{PoolId}
use Rattle.disk_trait.specs.declared.disk.Disk.{Ghosts as DiskGhosts}
use Rattle.pool_name.specs.declared.namer.Namer.{Ghosts as NamerGhosts}
use Rattle.attr_records.specs.Trees.{node_at}
use Rattle.attr_records.specs.declared.trees.PutRule.TheVariants.{FileTooLarge}
use Rattle.attr_tables.specs.declared.records.Record.{Record}
use Rattle.attr_tables.specs.declared.records.Record.TheVariants.{File, Dir, Link, Deleted}
use Rattle.attr_tables.specs.declared.records.StoredFile.{StoredFile}
use Rattle.journal_view.specs.View.{Quiet}
use Rattle.merge_view.specs.Runs.{children}
use Rattle.merge_view.specs.Views.{Rows, IsWhole}
use Rattle.pool_changes.specs.Listed.{index_of}
use Rattle.ref_counts.specs.Stored.{Backup as StoredBackup, StoredHost}
use Rattle.stored_trees.specs.Resolved.{resolved, AreTold}
use Rattle.office_model.specs.declared.answer.NamedNode.{NamedNode}
use Rattle.tree_frames.specs.declared.nodes.Node.{Node}
use Rattle.tree_frames.specs.declared.nodes.Node.TheVariants as N
use Rattle.office_model.specs.declared.refusal.BrokenRule.{BrokenRule}
use Rattle.office_model.specs.declared.refusal.BrokenRule.TheVariants.{NoPath, NotAFile, NotADirectory, Put as PutRule}
use Rattle.office_model.specs.declared.refusal.Refusal.{Refusal}
use Rattle.office_model.specs.declared.refusal.Refusal.TheVariants as R
use Rattle.office_model.specs.Office.{Office, Host, Backup, Names, answer_limit}
use Rattle.office_model.specs.Meaning.{Judged, ◌>>=◌, found}
use Rattle.office_model.specs.Parts.{backup_of}
use Rattle.office_model.specs.events.List.{name_in}
use Rattle.office_files.specs.Pooled.{contents_of, IsListed}
use Rattle.store_parts.specs.declared.parts.StoreParts.{StoreParts}
use Rattle.store_parts.specs.Held.{given}
use Rattle.store_parts.specs.States.{slots, IsRunning}

-- ---- answers of a record

-- the node that a record says, without the bytes of a file; a deletion mark says none
abbrev pub node_in : Record → Option Node
node_in (File file) = Some (N.File (record { attr = file.attr; group = file.group; size = file.size }))
node_in (Dir dir) = Some (N.Dir dir)
node_in (Link link) = Some (N.Link link)
node_in Deleted = None

-- what is said of a path
abbrev pub node_told : Option Record → Judged Node
node_told None = Err NoPath
node_told (Some stored) = found NoPath (node_in stored)

abbrev pub file_told : Option Record → Judged StoredFile
file_told None = Err NoPath
file_told (Some (File file)) = Ok file
file_told (Some (Dir dir)) = Err NotAFile
file_told (Some (Link link)) = Err NotAFile
file_told (Some Deleted) = Err NoPath

-- the content of a file that one answer can hold, None if it has no bytes
abbrev pub content_told : Option Record → Judged (Option PoolId)
content_told stored = file_told stored >>= λ file. if nat_lt answer_limit file.size then Err (PutRule FileTooLarge) else Ok file.content

-- the rule that listing a path breaks
abbrev pub directory_told : Option Record → Option BrokenRule
directory_told None = Some NoPath
directory_told (Some (File file)) = Some NotADirectory
directory_told (Some (Dir dir)) = None
directory_told (Some (Link link)) = Some NotADirectory
directory_told (Some Deleted) = Some NoPath

-- the root is always there
abbrev pub list_told : Rows → Option (List ℕ) → Option BrokenRule
list_told rows None = None
list_told rows (Some directory) = directory_told (node_at rows directory)

-- the entry of a row of what lies in a directory, or in the root
abbrev pub entry_told : Option (List ℕ) → List ℕ × Record → Option NamedNode
entry_told directory row = option_map (λ node. record { name = name_in directory row.0; node = node }) (node_in row.1)

abbrev pub pushed : {A : Type 0} → Option A → List A → List A
pushed None xs = xs
pushed (Some x) xs = x ∷ xs

abbrev pub entries_in : Option (List ℕ) → Rows → List NamedNode
entries_in directory [] = []
entries_in directory (row ∷ rows) = pushed (entry_told directory row) (entries_in directory rows)

-- what lies directly in a directory, or in the root
abbrev pub entries_told : Option (List ℕ) → Rows → List NamedNode
entries_told directory rows = entries_in directory (children directory rows)

-- what was judged, or want of memory
abbrev pub Answers : {A : Type 0} → Judged A → Result A Refusal → Type 0
Answers judged (Ok x) = judged ≡ Ok x
Answers judged (Err (R.Broken rule)) = judged ≡ Err rule
Answers judged (Err R.Memory) = ⊤
Answers judged (Err refusal) = ⊥

-- ---- backups

-- the tree of the backup of this name and number is that of these whole rows, which name given ids
pub record ShowsBackup (given : PoolId → Type 0) (contents : PoolId → List ℕ) (hosts : List Host) (name : List ℕ) (number : ℕ)
    (rows : Rows) : Type 0 where
  pub backup : Backup
  pub is : backup_of hosts name number ≡ Ok backup
  pub tree : backup.tree ≡ resolved contents rows
  pub whole : IsWhole rows
  pub told : AreTold given contents rows

-- a live or staged id, if there is one
abbrev pub IsGivenContent : (PoolId → Type 0) → Option PoolId → Type 0
IsGivenContent given None = ⊤
IsGivenContent given (Some id) = given id

module _ {D N S : Type 0} {d : DiskGhosts D} {n : NamerGhosts N S} where
  -- so in each office that the parts are at work with
  abbrev pub IsLoaded : StoreParts D N S d n → List ℕ → ℕ → Rows → Type 0
  IsLoaded parts name number rows =
      (office : Office) (names : Names) → (at : IsRunning parts office names)
      → ShowsBackup (IsListed (index_of (slots parts))) (contents_of at.all) office.hosts name number rows

  -- the rows that are stored for the backup at this line of this host
  abbrev pub IsTreeAt : StoreParts D N S d n → ℕ → ℕ → Rows → Type 0
  IsTreeAt parts host line tree =
      (office : Office) (names : Names) (at : IsRunning parts office names) (of : StoredHost) (stored : StoredBackup)
      → slice_get at.shown host ≡ Some of → slice_get of.backups line ≡ Some stored → tree ≡ stored.rows

  -- the rule that there is no such host or backup
  abbrev pub IsNoBackup : StoreParts D N S d n → List ℕ → ℕ → BrokenRule → Type 0
  IsNoBackup parts name number rule =
      (office : Office) (names : Names) → IsRunning parts office names → backup_of office.hosts name number ≡ Err rule

  -- a rule that is broken there, want of memory or a fault of the disk; a damaged file can't be there
  abbrev pub IsRefusal : {A : Type 0} → StoreParts D N S d n → (Office → Judged A) → Refusal → Type 0
  IsRefusal parts judged (R.Broken rule) = (office : Office) (names : Names) → IsRunning parts office names → judged office ≡ Err rule
  IsRefusal parts judged (R.Damaged file found) = (office : Office) (names : Names) → IsRunning parts office names → ⊥
  IsRefusal parts judged R.DiskFault = ⊤
  IsRefusal parts judged R.Memory = ⊤
  IsRefusal parts judged R.Halted = ⊥

  -- the same of a content, whose file can't be damaged there if its id is live or staged, and no rule can be broken
  abbrev pub IsContentFault : StoreParts D N S d n → Option PoolId → Refusal → Type 0
  IsContentFault parts content (R.Damaged file found) =
      (office : Office) (names : Names) → IsRunning parts office names → IsGivenContent (given (slots parts)) content → ⊥
  IsContentFault parts content R.DiskFault = ⊤
  IsContentFault parts content R.Memory = ⊤
  IsContentFault parts content refusal = ⊥

  -- files were read, and the parts are as before
  pub record Looks (old new : StoreParts D N S d n) : Type 0 where
    pub quiet : Quiet old.journal new.journal
    pub pool_same : new.pool ≡ old.pool
    pub catalog_same : new.catalog ≡ old.catalog
    pub counts_same : new.counts ≡ old.counts
    pub partials_same : new.partials ≡ old.partials
    pub sessions_same : new.sessions ≡ old.sessions
    pub halted_same : new.halted ≡ old.halted
    pub views_same : new.views ≡ old.views
