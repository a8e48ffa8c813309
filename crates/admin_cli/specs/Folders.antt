-- What the program promises for its commands `dump-folder` and `restore-folder`.
--     note_of_dump, note_of_restore      the notes of runs that opened their store
--     IsCauseAtWork      why a call of a store at work is refused
--     HoldsBackup      what a disk stands for has a backup with this tree
--     DumpsFolder, RestoresFolder      the store was opened, and the command's calls were made
use Rattle.std.specs.Prelude.{◌≡◌, ⊤, ℕ, ◌≤◌, Bool, true, false, if◌then◌else◌, List, length, Option, Some, None, is_some, option_map, Result, Ok, Err, IfErr, IsErrOf}
use Rattle.std.specs.Option.{ForSome}
use Rattle.fault_counts.specs.Counts.{Rose, Counted}
use Rattle.disk_trait.specs.declared.ids.FileId.{FileId}
use Rattle.disk_trait.specs.declared.disk.Disk.{Ghosts as DiskGhosts}
use Rattle.stream_traits.specs.Seen.{LinkSeen}
use Rattle.journal_view.specs.Found.{seen}
use Rattle.attr_records.specs.Items.{Tree}
use Rattle.backup_rules.specs.declared.lines.Kind.{Kind}
use Rattle.office_model.specs.Office.{Office, Durable, Backup}
use Rattle.office_model.specs.Parts.{backup_of}
use Rattle.office_model.specs.Step.{Call, IsPicked}
use Rattle.office_model.specs.declared.refusal.Refusal.{Refusal}
use Rattle.office_model.specs.declared.refusal.Refusal.TheVariants as R
use Rattle.folder_trait.specs.declared.folder.Folder.{Ghosts as FolderGhosts}
use Rattle.folder_trait.specs.Folders.{IsEmptiness}
use Rattle.folder_laws.specs.OfficeLaws.{Shows}
use Rattle.folder_walk.specs.declared.refusals.DumpRefusal.{DumpRefusal}
use Rattle.folder_walk.specs.declared.refusals.DumpRefusal.TheVariants as P
use Rattle.folder_walk.specs.Causes.{IsDumpCause}
use Rattle.folder_walk.specs.Dumps.{Dumped, Stopped as DumpStopped}
use Rattle.folder_restore.specs.declared.refusals.RestoreRefusal.{RestoreRefusal}
use Rattle.folder_restore.specs.declared.refusals.RestoreRefusal.TheVariants as W
use Rattle.folder_restore.specs.Restores.{Restored, Stopped as RestoreStopped, IsUncalled}
use Rattle.serve_workers.specs.Stores.{IsDamagedFile, IsDamagedRead}
use Rattle.command_line.specs.Line.{Line, DumpFolder, RestoreFolder}
use Rattle.admin_cli.specs.declared.note.Note.{Note}
use Rattle.admin_cli.specs.declared.note.Note.TheVariants as N
use Rattle.admin_cli.specs.Command.{AsksFor}
use Rattle.admin_cli.specs.Asked.{IsSettingsFile}
use Rattle.admin_cli.specs.FolderTexts.{text_of_dump, text_of_restore}
use Rattle.admin_cli.specs.Nights.{note_of_all, Says}
use Rattle.admin_cli.specs.Run.{StandsForEither, LeadsOnDisk}

-- what is said if a rule was broken: of a halted store that first
abbrev pub note_of_rule : Note → (halted : Bool) → Note
note_of_rule note halted = if halted then N.DiskFailed else note

-- what is said of a call that was refused
abbrev pub note_of_call : Refusal → (halted : Bool) → Note
note_of_call (R.Broken rule) halted = note_of_rule (N.Refused rule) halted
note_of_call R.Halted halted = N.DiskFailed
note_of_call R.DiskFault halted = N.DiskFailed
note_of_call (R.Damaged file found) halted = N.Foreign file
note_of_call R.Memory halted = N.NoMemory

abbrev pub note_of_dump : Result ℕ DumpRefusal → (failed halted : Bool) → Note
note_of_dump (Ok number) failed halted = note_of_all failed halted
note_of_dump (Err (P.Refused refusal)) failed halted = note_of_call refusal halted
note_of_dump (Err (P.BadPath rule)) failed halted = note_of_rule N.BadPath halted
note_of_dump (Err P.BadTarget) failed halted = note_of_rule N.BadTarget halted
note_of_dump (Err P.FileTooLarge) failed halted = note_of_rule N.FileTooLarge halted
note_of_dump (Err P.Folder) failed halted = N.FolderFailed
note_of_dump (Err P.Memory) failed halted = N.NoMemory

abbrev pub note_of_restore : Result ℕ RestoreRefusal → (failed halted : Bool) → Note
note_of_restore (Ok entries) failed halted = note_of_all failed halted
note_of_restore (Err (W.Refused refusal)) failed halted = note_of_call refusal halted
note_of_restore (Err W.NotEmpty) failed halted = note_of_rule N.FolderNotEmpty halted
note_of_restore (Err W.Folder) failed halted = N.FolderFailed
note_of_restore (Err W.Memory) failed halted = N.NoMemory

-- a refusal of a store at work: a broken rule, want of memory, or a fault of the disk, which is counted
abbrev pub IsCauseAtWork : Refusal → (faults faults' : ℕ) → Type 0
IsCauseAtWork (R.Broken rule) faults faults' = ⊤
IsCauseAtWork R.Halted faults faults' = ⊥
IsCauseAtWork R.DiskFault faults faults' = Rose faults faults'
IsCauseAtWork (R.Damaged file found) faults faults' = ⊥
IsCauseAtWork R.Memory faults faults' = ⊤

abbrev pub HasDumpCause : Result ℕ DumpRefusal → (faults faults' : ℕ) → Type 0
HasDumpCause (Err (P.Refused refusal)) faults faults' = IsCauseAtWork refusal faults faults'
HasDumpCause result faults faults' = ⊤

abbrev pub HasRestoreCause : Result ℕ RestoreRefusal → (faults faults' : ℕ) → Type 0
HasRestoreCause (Err (W.Refused refusal)) faults faults' = IsCauseAtWork refusal faults faults'
HasRestoreCause result faults faults' = ⊤

-- what was dumped, by how it ended
abbrev pub Dumps : {P : Type 0} → (P → List Call → P → Type 0) → P → P → Option Tree → (moments moments' : Option (List ℕ)) → Kind → List ℕ
    → Result ℕ DumpRefusal → Type 0
Dumps moves old new told moments moments' kind host (Ok number) = Dumped moves old new told moments moments' kind host number
Dumps moves old new told moments moments' kind host (Err refusal) = DumpStopped moves old new told moments moments' kind host refusal

-- what was restored, by how it ended
abbrev pub Restores : {P : Type 0} → (P → List Call → P → Type 0) → P → P → (told told' : Option Tree) → List ℕ → ℕ → Result ℕ RestoreRefusal
    → Type 0
Restores moves old new told told' host number (Ok entries) = Restored moves old new told told' host number entries
Restores moves old new told told' host number (Err refusal) = RestoreStopped moves old new host number refusal

module _ {D : Type 0} (d : DiskGhosts D) (digest_of : List ℕ → List ℕ) where
  -- the disk stands for an office in which the host has a backup of this number with this tree
  pub record HoldsBackup (disk : D) (host : List ℕ) (number : ℕ) (tree : Tree) : Type 0 where
    pub office : Office
    pub stands : StandsForEither d digest_of disk office.durable office.durable
    pub shows : Shows office host number tree

  -- the disk stands for an office in which the host has a backup of this number, of this many entries, and a folder tells its tree
  pub record GivesBackup (disk : D) (a b : Durable) (host : List ℕ) (number entries : ℕ) (told' : Option Tree) : Type 0 where
    pub office : Durable
    pub is_one : IsPicked a b office
    pub backup : Backup
    pub found : backup_of office.hosts host number ≡ Ok backup
    pub told : told' ≡ Some backup.tree
    pub entries_are : entries ≡ length backup.tree

  module _ {F : Type 0} (f : FolderGhosts F) where
    -- The words ask for `dump-folder`, the store was opened, and the folder was dumped: its calls, which are the script of a dump of its
    -- tree, lead from the disk that came in to that handed back, and its line, if it was committed, was said on the link. Then, if the
    -- folder tells its tree, the disk stands for an office in which that is the backup's. Over any disk, whatever the folder tells, a file
    -- is named only if it is one that the disk handed back has damaged, and the disk is said to have failed only if its count rose.
    pub record DumpsFolder (disk disk' : D) (line : Option Line) (settings : List ℕ) (link link' : LinkSeen)
        (moments moments' : Option (List ℕ)) (folder folder' : F) (note : Note) : Type 0 where
      pub host : List ℕ
      pub kind : Kind
      pub path : List ℕ
      pub asked : AsksFor (DumpFolder host kind path) line
      pub read : IsSettingsFile settings
      pub result : Result ℕ DumpRefusal
      pub failed : Bool
      pub halted : Bool
      pub dumps : Dumps (LeadsOnDisk d digest_of halted) disk disk' (f.tree folder) moments moments' kind host result
      pub shows : (number : ℕ) (tree : Tree) (a b : Durable) → result ≡ Ok number → f.tree folder ≡ Some tree
          → StandsForEither d digest_of disk a b → HoldsBackup disk' host number tree
      pub why : IfErr result (IsDumpCause (f.tree folder))
      pub same : f.tree folder' ≡ f.tree folder
      pub counted : Counted (f.fault_count folder) (f.fault_count folder') (IsErrOf result P.Folder)
      pub says : Says (text_of_dump host result) link link' failed
      pub cause : (a b : Durable) → StandsForEither d digest_of disk a b
          → HasDumpCause result (d.fault_count disk) (d.fault_count disk')
          × (halted ≡ true → Rose (d.fault_count disk) (d.fault_count disk'))
      pub later : d.fault_count disk ≤ d.fault_count disk'
      pub foreign : (file : FileId) → note ≡ N.Foreign file → IsDamagedFile (option_map seen (d.files disk')) file
      pub stops : note ≡ N.DiskFailed → Rose (d.fault_count disk) (d.fault_count disk')
      pub note_is : note ≡ note_of_dump result failed halted

    -- The words ask for `restore-folder`, the store was opened, and the backup was restored: its calls, which are the script of a
    -- restore, lead from the disk that came in to that handed back, and its line, if it ran to its end, was said on the link. Then, if
    -- the folder tells its tree, that is the backup's. Nothing is called if something lies in the folder. Over any disk a file is named
    -- only if it is a table or a content that the disk handed back has damaged.
    pub record RestoresFolder (disk disk' : D) (line : Option Line) (settings : List ℕ) (link link' : LinkSeen)
        (moments moments' : Option (List ℕ)) (folder folder' : F) (note : Note) : Type 0 where
      pub host : List ℕ
      pub number : ℕ
      pub path : List ℕ
      pub asked : AsksFor (RestoreFolder host number path) line
      pub read : IsSettingsFile settings
      pub result : Result ℕ RestoreRefusal
      pub failed : Bool
      pub halted : Bool
      pub restores : Restores (LeadsOnDisk d digest_of halted) disk disk' (f.tree folder) (f.tree folder') host number result
      pub shows : (entries : ℕ) (a b : Durable) → result ≡ Ok entries → is_some (f.tree folder) ≡ true
          → StandsForEither d digest_of disk a b → GivesBackup disk a b host number entries (f.tree folder')
      pub not_empty : IsErrOf result W.NotEmpty
          → ForSome (f.tree folder) (λ all. IsEmptiness all false) × (f.tree folder' ≡ f.tree folder)
      pub looked_at : ForSome (f.tree folder) (λ all. IsEmptiness all false → IsUncalled result)
      pub counted : Counted (f.fault_count folder) (f.fault_count folder') (IsErrOf result W.Folder)
      pub says : Says (text_of_restore host number result) link link' failed
      pub cause : (a b : Durable) → StandsForEither d digest_of disk a b
          → HasRestoreCause result (d.fault_count disk) (d.fault_count disk')
          × (halted ≡ true → Rose (d.fault_count disk) (d.fault_count disk'))
      pub later : d.fault_count disk ≤ d.fault_count disk'
      pub unasked : moments' ≡ moments
      pub foreign : (file : FileId) → note ≡ N.Foreign file → IsDamagedRead digest_of (option_map seen (d.files disk')) file
      pub stops : note ≡ N.DiskFailed → Rose (d.fault_count disk) (d.fault_count disk')
      pub note_is : note ≡ note_of_restore result failed halted
