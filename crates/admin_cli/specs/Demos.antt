-- What the program promises for its command `demo`.
--     note_of_demo      the note of a run that opened its store
--     HasDemoCause      why a demo over a store at work is refused
--     DoesDemo      the store was opened, and the demo's calls were made
use Rattle.std.specs.Prelude.{◌≡◌, ◌⊎◌, ⊤, ℕ, ◌≤◌, Bool, true, List, Option, option_map}
use Rattle.fault_counts.specs.Counts.{Rose}
use Rattle.disk_trait.specs.declared.ids.FileId.{FileId}
use Rattle.disk_trait.specs.declared.disk.Disk.{Ghosts as DiskGhosts}
use Rattle.stream_traits.specs.Seen.{LinkSeen}
use Rattle.journal_view.specs.Found.{seen}
use Rattle.office_model.specs.Office.{Durable}
use Rattle.demo_work.specs.declared.ends.DemoEnd.{DemoEnd}
use Rattle.demo_work.specs.declared.ends.DemoEnd.TheVariants as E
use Rattle.demo_work.specs.Ends.{Shows}
use Rattle.demo_work.specs.Texts.{text_of}
use Rattle.serve_workers.specs.Stores.{IsDamagedPartial, IsDamagedRead}
use Rattle.command_line.specs.Line.{Line, Demo}
use Rattle.admin_cli.specs.declared.note.Note.{Note}
use Rattle.admin_cli.specs.declared.note.Note.TheVariants as N
use Rattle.admin_cli.specs.Command.{AsksFor}
use Rattle.admin_cli.specs.Asked.{IsSettingsFile}
use Rattle.admin_cli.specs.Folders.{note_of_rule, note_of_call, IsCauseAtWork}
use Rattle.admin_cli.specs.Nights.{note_of_all, Says}
use Rattle.admin_cli.specs.Run.{StandsForEither, LeadsOnDisk}

abbrev pub note_of_demo : DemoEnd → (failed halted : Bool) → Note
note_of_demo (E.Done summary) failed halted = note_of_all failed halted
note_of_demo E.Occupied failed halted = note_of_rule N.StoreNotEmpty halted
note_of_demo (E.Refused refusal) failed halted = note_of_call refusal halted
note_of_demo E.Memory failed halted = N.NoMemory

abbrev pub HasDemoCause : DemoEnd → (faults faults' : ℕ) → Type 0
HasDemoCause (E.Refused refusal) faults faults' = IsCauseAtWork refusal faults faults'
HasDemoCause end faults faults' = ⊤

module _ {D : Type 0} (d : DiskGhosts D) (digest_of : List ℕ → List ℕ) where
  -- The words ask for `demo`, the store was opened, and its calls, which are the script of the number's demo or the beginning of it,
  -- lead from the disk that came in to that handed back. The summary of their replies, if it ran to its end, was said on the link; a
  -- demo that found a host called nothing else. The clock wasn't asked. Over any disk a file is named only if it is a partial, a table or
  -- a content that the disk handed back has damaged.
  pub record DoesDemo (disk disk' : D) (line : Option Line) (settings : List ℕ) (link link' : LinkSeen)
      (moments moments' : Option (List ℕ)) (note : Note) : Type 0 where
    pub number : ℕ
    pub asked : AsksFor (Demo number) line
    pub read : IsSettingsFile settings
    pub end : DemoEnd
    pub failed : Bool
    pub halted : Bool
    pub shows : Shows (LeadsOnDisk d digest_of halted) disk disk' number end
    pub says : Says (text_of end) link link' failed
    pub cause : (a b : Durable) → StandsForEither d digest_of disk a b
        → HasDemoCause end (d.fault_count disk) (d.fault_count disk')
        × (halted ≡ true → Rose (d.fault_count disk) (d.fault_count disk'))
    pub later : d.fault_count disk ≤ d.fault_count disk'
    pub unasked : moments' ≡ moments
    pub foreign : (file : FileId) → note ≡ N.Foreign file
        → IsDamagedPartial (option_map seen (d.files disk')) file ⊎ IsDamagedRead digest_of (option_map seen (d.files disk')) file
    pub stops : note ≡ N.DiskFailed → Rose (d.fault_count disk) (d.fault_count disk')
    pub note_is : note ≡ note_of_demo end failed halted
