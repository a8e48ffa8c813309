-- What the program promises for its command `migrate`.
--     note_of_migration      the note of a run that opened its store
--     HasMigrationCause      why a migration of a store at work is refused
--     HasNoFirst      no table is of the first layout
--     DoesMigration      the store was opened, and the migration's calls were made
use Rattle.std.specs.Prelude.{◌≡◌, ⊤, ℕ, ◌≤◌, Bool, true, false, List, Option, option_map}
use Rattle.fault_counts.specs.Counts.{Rose}
use Rattle.disk_trait.specs.declared.ids.FileId.{FileId}
use Rattle.disk_trait.specs.declared.ids.FileId.TheVariants.{Table}
use Rattle.disk_trait.specs.declared.disk.Disk.{Ghosts as DiskGhosts}
use Rattle.disk_trait.specs.Files.{Files}
use Rattle.stream_traits.specs.Seen.{LinkSeen}
use Rattle.journal_view.specs.Found.{FindsAll, seen}
use Rattle.office_model.specs.Office.{Durable, raised}
use Rattle.office_model.specs.Step.{IsPicked}
use Rattle.office_files.specs.TableLayouts.{is_first_layout}
use Rattle.serve_workers.specs.Stores.{IsDamagedTable}
use Rattle.migrate_work.specs.declared.ends.MigrationEnd.{MigrationEnd}
use Rattle.migrate_work.specs.declared.ends.MigrationEnd.TheVariants as E
use Rattle.migrate_work.specs.Ends.{Works}
use Rattle.migrate_work.specs.Texts.{text_of}
use Rattle.command_line.specs.Line.{Line, Migrate}
use Rattle.admin_cli.specs.declared.note.Note.{Note}
use Rattle.admin_cli.specs.declared.note.Note.TheVariants as N
use Rattle.admin_cli.specs.Command.{AsksFor}
use Rattle.admin_cli.specs.Asked.{IsSettingsFile}
use Rattle.admin_cli.specs.Folders.{note_of_call, IsCauseAtWork}
use Rattle.admin_cli.specs.Nights.{note_of_all, Says}
use Rattle.admin_cli.specs.Run.{StandsForEither, LeadsOnDisk}

abbrev pub note_of_migration : MigrationEnd → (failed halted : Bool) → Note
note_of_migration (E.Done count) failed halted = note_of_all failed halted
note_of_migration (E.Refused refusal) failed halted = note_of_call refusal halted
note_of_migration E.Memory failed halted = N.NoMemory

abbrev pub HasMigrationCause : MigrationEnd → (faults faults' : ℕ) → Type 0
HasMigrationCause (E.Refused refusal) faults faults' = IsCauseAtWork refusal faults faults'
HasMigrationCause end faults faults' = ⊤

abbrev pub HasNoFirst : Files → Type 0
HasNoFirst files = (host number : ℕ) → is_first_layout (files (Table host number)) ≡ false

module _ {D : Type 0} (d : DiskGhosts D) (digest_of : List ℕ → List ℕ) where
  -- the disk stands for one of the offices that it stood for, in its next epoch
  pub record IsKept (disk' : D) (a b : Durable) : Type 0 where
    pub office : Durable
    pub is_one : IsPicked a b office
    pub left : StandsForEither d digest_of disk' (raised office) (raised office)

  -- The words ask for `migrate`, the store was opened, and its calls, which are the script of a migration or the beginning of it, lead from
  -- the disk that came in to that handed back. However it ended, all backups are as they were; and if it ran to its end, then whatever
  -- a crash leaves now an opening finds no table of the first layout. The number of hosts was said on the link then. The clock wasn't asked.
  -- Over any disk a file is named only if it is a table that the disk handed back holds none in.
  pub record DoesMigration (disk disk' : D) (line : Option Line) (settings : List ℕ) (link link' : LinkSeen)
      (moments moments' : Option (List ℕ)) (note : Note) : Type 0 where
    pub asked : AsksFor Migrate line
    pub read : IsSettingsFile settings
    pub end : MigrationEnd
    pub failed : Bool
    pub halted : Bool
    pub works : Works (LeadsOnDisk d digest_of halted) disk disk' end
    pub says : Says (text_of end) link link' failed
    pub cause : (a b : Durable) → StandsForEither d digest_of disk a b
        → HasMigrationCause end (d.fault_count disk) (d.fault_count disk')
        × (halted ≡ true → Rose (d.fault_count disk) (d.fault_count disk'))
    pub kept : (a b : Durable) → StandsForEither d digest_of disk a b → IsKept disk' a b
    pub migrated : (a b : Durable) → StandsForEither d digest_of disk a b → (count : ℕ) → end ≡ E.Done count
        → FindsAll (d.files disk') (d.uncertain disk') HasNoFirst
    pub later : d.fault_count disk ≤ d.fault_count disk'
    pub unasked : moments' ≡ moments
    pub foreign : (file : FileId) → note ≡ N.Foreign file → IsDamagedTable (option_map seen (d.files disk')) file
    pub stops : note ≡ N.DiskFailed → Rose (d.fault_count disk) (d.fault_count disk')
    pub note_is : note ≡ note_of_migration end failed halted
