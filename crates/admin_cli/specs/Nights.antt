-- What the program promises for its command `night`.
--     note_of_night      the note of a run that did its night, or ended at a refusal
--     HasCause      why a night of a store at work is refused
--     Says      what is said on the link
--     DoesNight      the store was opened, and the night's calls were made
use Rattle.std.specs.Prelude.{◌≡◌, ℕ, ◌≤◌, Bool, true, false, if◌then◌else◌, List, Option, None, Some, option_map}
use Rattle.fault_counts.specs.Counts.{Rose, Counted}
use Rattle.disk_trait.specs.declared.ids.FileId.{FileId}
use Rattle.disk_trait.specs.declared.disk.Disk.{Ghosts as DiskGhosts}
use Rattle.stream_traits.specs.Seen.{LinkSeen}
use Rattle.stream_traits.specs.Told.{behind, WroteFront}
use Rattle.journal_view.specs.Found.{seen}
use Rattle.office_model.specs.Office.{Durable}
use Rattle.office_model.specs.declared.refusal.Refusal.{Refusal}
use Rattle.office_model.specs.declared.refusal.Refusal.TheVariants as R
use Rattle.serve_workers.specs.Stores.{IsDamagedTable}
use Rattle.settings_file.specs.declared.read.Settings.{Settings}
use Rattle.settings_file.specs.Document.{IsSettings}
use Rattle.night_work.specs.declared.ends.NightEnd.{NightEnd}
use Rattle.night_work.specs.declared.ends.NightEnd.TheVariants as E
use Rattle.night_work.specs.Ends.{Works}
use Rattle.night_work.specs.Texts.{text_of}
use Rattle.admin_cli.specs.declared.note.Note.{Note}
use Rattle.admin_cli.specs.declared.note.Note.TheVariants.{Nothing, LinkFailed, DiskFailed, Foreign, NoMemory}
use Rattle.command_line.specs.Line.{Line, Night}
use Rattle.admin_cli.specs.Command.{AsksFor}
use Rattle.admin_cli.specs.Run.{StandsForEither, LeadsOnDisk}

-- what is said if nothing failed but the link or the disk: the link's fault first, then a halted store
abbrev pub note_of_all : (failed halted : Bool) → Note
note_of_all failed halted = if failed then LinkFailed else (if halted then DiskFailed else Nothing)

-- what is said of a night that ended at a refusal, which wrote nothing; no event of a night breaks a rule
abbrev pub note_of_refused : Refusal → (halted : Bool) → Note
note_of_refused (R.Broken rule) halted = note_of_all false halted
note_of_refused R.Halted halted = DiskFailed
note_of_refused R.DiskFault halted = DiskFailed
note_of_refused (R.Damaged file found) halted = Foreign file
note_of_refused R.Memory halted = NoMemory

abbrev pub note_of_night : NightEnd → (failed halted : Bool) → Note
note_of_night (E.Done night) failed halted = note_of_all failed halted
note_of_night E.NotNow failed halted = note_of_all failed halted
note_of_night (E.Refused refusal) failed halted = note_of_refused refusal halted
note_of_night E.Memory failed halted = NoMemory

-- a refusal of a store at work: for want of memory, or by a fault of the disk, which is counted. A night breaks no rule
abbrev pub IsRefusedFor : Refusal → (faults faults' : ℕ) → Type 0
IsRefusedFor (R.Broken rule) faults faults' = ⊥
IsRefusedFor R.Halted faults faults' = ⊥
IsRefusedFor R.DiskFault faults faults' = Rose faults faults'
IsRefusedFor (R.Damaged file found) faults faults' = ⊥
IsRefusedFor R.Memory faults faults' = Unit {0}

abbrev pub HasCause : NightEnd → (faults faults' : ℕ) → Type 0
HasCause (E.Done night) faults faults' = Unit {0}
HasCause E.NotNow faults faults' = Unit {0}
HasCause (E.Refused refusal) faults faults' = IsRefusedFor refusal faults faults'
HasCause E.Memory faults faults' = Unit {0}

-- a text was written on a link and sent, or a front of it if the link failed; and nothing was read
pub record SaysText (text : List ℕ) (link link' : LinkSeen) (failed : Bool) : Type 0 where
  pub whole : failed ≡ false → link'.written ≡ behind link.written text
  pub sent : failed ≡ false → link'.sent ≡ link'.written
  pub front : WroteFront link.written link'.written text
  pub left : link'.left ≡ link.left
  pub counted : Counted link.faults link'.faults (failed ≡ true)

abbrev pub Says : Option (List ℕ) → LinkSeen → LinkSeen → (failed : Bool) → Type 0
Says None link link' failed = (link' ≡ link) × (failed ≡ false)
Says (Some text) link link' failed = SaysText text link link' failed

module _ {D : Type 0} (d : DiskGhosts D) (digest_of : List ℕ → List ℕ) where
  -- the words ask for `night`, the store was opened, and the night was done by the settings that were read: its calls lead from the
  -- disk that came in to that handed back, and its line, if it ran to its end, was said on the link. Over any disk a file is named only
  -- if it is a table that the disk handed back holds none in, and the disk's failure told only if its count rose
  pub record DoesNight (disk disk' : D) (line : Option Line) (settings : List ℕ) (link link' : LinkSeen)
      (moments moments' : Option (List ℕ)) (note : Note) : Type 0 where
    pub scheduled : Bool
    pub asked : AsksFor (Night scheduled) line
    pub read : Settings
    pub is_read : IsSettings settings read
    pub end : NightEnd
    pub failed : Bool
    pub halted : Bool
    pub works : Works (LeadsOnDisk d digest_of halted) disk disk' moments moments' read.zone read.wake.items read.period scheduled end
    pub says : Says (text_of end) link link' failed
    pub cause : (a b : Durable) → StandsForEither d digest_of disk a b → HasCause end (d.fault_count disk) (d.fault_count disk')
    pub later : d.fault_count disk ≤ d.fault_count disk'
    pub foreign : (file : FileId) → note ≡ Foreign file → IsDamagedTable (option_map seen (d.files disk')) file
    pub stops : note ≡ DiskFailed → Rose (d.fault_count disk) (d.fault_count disk')
    pub note_is : note ≡ note_of_night end failed halted
