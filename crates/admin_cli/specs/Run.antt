-- What the program promises for its command `pipe`.
--     note_of      the note of a run that served its connection
--     IsServed      one legal history of the calls, from one of the offices that the disk stood for, and what the disk is left with
--     LeadsOnDisk      so, if the disk stood for one; and why the store is halted, whatever the disk
--     Serves, Refuses      a connection was served; no store was opened
--     IsComplete      how a run ends if nothing failed
use Rattle.std.specs.Prelude.{◌≡◌, ℕ, ◌-◌, ◌^◌, ◌<◌, ◌≤◌, Bool, true, false, List, Option, Some, option_map, IsSome, ◌⊎◌, if◌then◌else◌}
use Rattle.fault_counts.specs.Counts.{Rose, Counted}
use Rattle.disk_trait.specs.declared.disk.Disk.{Ghosts as DiskGhosts}
use Rattle.disk_trait.specs.Files.{Files}
use Rattle.disk_trait.specs.Images.{Leaves, LeavesOnly}
use Rattle.stream_traits.specs.Seen.{LinkSeen}
use Rattle.journal_view.specs.Found.{seen, Finds, FindsAll, CanFind}
use Rattle.office_model.specs.Office.{Durable, Names, raised, reopened}
use Rattle.office_model.specs.Step.{Call, State, Running, Halted, IsPicked, names_of}
use Rattle.office_model.specs.History.{Leads}
use Rattle.office_model.specs.UsedNames.{AreSound}
use Rattle.office_files.specs.TableLayouts.{AreSecondBut, AreOldHosts}
use Rattle.store_parts.specs.Held.{IsEither}
use Rattle.store_opening.specs.declared.fault.OpenRefusal.{OpenRefusal}
use Rattle.store_opening.specs.declared.fault.OpenRefusal.TheVariants as O
use Rattle.store_opening.specs.Opens.{IsOf, HasLast, Left}
use Rattle.store_opening.specs.Recovers.{SaysWhy}
use Rattle.store_opening.specs.Reopens.{first_of, second_of}
use Rattle.store_opening.specs.Settles.{IsStopped}
use Rattle.store_opening.specs.Whole.{AreListed, SaysSpent}
use Rattle.serve_workers.specs.Stores.{MayRecoverIn, HasStopCause, HasFailed}
use Rattle.settings_file.specs.declared.read.Settings.{Settings}
use Rattle.settings_file.specs.Document.{IsSettings}
use Rattle.browse_http.specs.declared.end.End.{End}
use Rattle.browse_http.specs.declared.end.End.TheVariants.{Ended, Truncated, BadRequest, LinkFault, Memory, Cut}
use Rattle.browse_http.specs.Talk.{ServesLink}
use Rattle.admin_cli.specs.declared.note.Note.{Note}
use Rattle.admin_cli.specs.declared.note.Note.TheVariants.{Nothing, InputEnded, NotUnderstood, ResponseCut, LinkFailed, DiskFailed, Foreign, EpochsSpent, NoMemory}
use Rattle.admin_cli.specs.Statuses.{status_of}
use Rattle.command_line.specs.Line.{Line, Pipe}
use Rattle.admin_cli.specs.Command.{AsksFor}
use Rattle.admin_cli.specs.Asked.{IsSettingsFile, defaults_of, IsRefused}

-- what a run says that served its connection: want of memory first, then the link's fault, a halted store, and the connection's end
abbrev pub note_of : End → (halted : Bool) → Note
note_of Memory halted = NoMemory
note_of LinkFault halted = LinkFailed
note_of Ended halted = if halted then DiskFailed else Nothing
note_of Truncated halted = if halted then DiskFailed else InputEnded
note_of BadRequest halted = if halted then DiskFailed else NotUnderstood
note_of (Cut refusal) halted = if halted then DiskFailed else ResponseCut

-- what a run says that opened no store
abbrev pub note_of_refusal : OpenRefusal → Note
note_of_refusal (O.Foreign file found) = Foreign file
note_of_refusal O.EpochsSpent = EpochsSpent
note_of_refusal O.DiskFault = DiskFailed
note_of_refusal O.Memory = NoMemory

abbrev pub is_halted : State → Bool
is_halted (Running office names) = false
is_halted (Halted before next names) = true

module _ {D : Type 0} (d : DiskGhosts D) (digest_of : List ℕ → List ℕ) where
  -- whatever a crash of the disk leaves now, it stands for one of two offices
  abbrev pub StandsForEither : D → Durable → Durable → Type 0
  StandsForEither disk = IsOf digest_of (d.files disk) (d.uncertain disk)

  -- There is one legal history of these calls, from one of the two offices that the disk stood for, opened, to a last state. The names
  -- that were in use at its beginning are those of the disk's Pool files, and the old hosts those that have a table of the first layout;
  -- at its end no other host has one, whatever a crash leaves. The
  -- disk handed back stands for the durable part of its office, or for one of its two if it is halted, for which a fault of the
  -- disk was counted. A crash up to the first sync that succeeded leaves one of the two, and from then on the one that was opened, as it
  -- was or in its next epoch, or what one of the events may leave.
  pub record IsServed (disk disk' : D) (calls : List Call) (halted : Bool) (a b : Durable) : Type 0 where
    pub office : Durable
    pub is_one : IsPicked a b office
    pub names : Names
    pub sound : AreSound (reopened office) names
    pub digest : names.digest_of ≡ digest_of
    pub listed : (all : Files) → d.files disk ≡ Some all → AreListed names.used all
    pub older : (found : Files) × CanFind (d.files disk) (d.uncertain disk) found × AreOldHosts names.old_hosts found
    pub opening : ℕ
    pub since : d.fault_count disk ≤ opening
    pub last : State
    pub history : Leads (Running (reopened office) names) opening calls last (d.fault_count disk')
    pub left : StandsForEither disk' (first_of last) (second_of last)
    pub second : FindsAll (d.files disk') (d.uncertain disk') (AreSecondBut (names_of last).old_hosts)
    pub halted_is : halted ≡ is_halted last
    pub rose : halted ≡ true → Rose (d.fault_count disk) (d.fault_count disk')
    pub synced : D
    pub up_to : Leaves d.moment d.left_since disk synced (Finds (IsEither digest_of a b))
    pub crash : LeavesOnly d.moment d.left_since synced disk' (Finds (λ found.
        IsEither digest_of office (raised office) found ⊎ MayRecoverIn digest_of (Running (reopened office) names) opening calls found))

  -- The calls lead from one disk to another, if whatever a crash of the first leaves stands for one of two offices. Over any disk the
  -- store is halted at their end, or one of them answered so or that the disk failed, only if the disk's count rose or a reopening among
  -- them found a file that isn't the store's.
  pub record LeadsOnDisk (halted : Bool) (disk : D) (calls : List Call) (disk' : D) : Type 0 where
    pub served : (a b : Durable) → StandsForEither disk a b → IsServed disk disk' calls halted a b
    pub stopped : halted ≡ true → HasStopCause (d.fault_count disk) (d.fault_count disk') calls
    pub failed : HasFailed calls → HasStopCause (d.fault_count disk) (d.fault_count disk') calls

  -- the words ask for `pipe`, the store was opened, and one connection was served by the settings that were read: its talk, over
  -- calls that lead from the disk that came in to that handed back
  pub record Serves (disk disk' : D) (line : Option Line) (settings : List ℕ) (link link' : LinkSeen)
      (moments moments' : Option (List ℕ)) (note : Note) : Type 0 where
    pub asked : AsksFor Pipe line
    pub read : Settings
    pub is_read : IsSettings settings read
    pub end : End
    pub halted : Bool
    pub talk : ServesLink (defaults_of read) (LeadsOnDisk halted) disk disk' link link' moments moments' end
    pub later : d.fault_count disk ≤ d.fault_count disk'
    pub note_is : note ≡ note_of end halted

  -- The store was not opened for this reason. A file is named only if it is seen not to be the store's, and the epochs are spent only
  -- if the files are those of a store in its last one; the disk's count rose exactly
  -- if it failed; and the disk handed back stands for what it stood for, or, if it failed, for one of the offices as it was or in its
  -- next epoch; so does what a crash meanwhile leaves.
  pub record IsUnopened (disk disk' : D) (refusal : OpenRefusal) : Type 0 where
    pub why : SaysWhy (d.files disk) (d.files disk') refusal
    pub spent : SaysSpent (option_map seen (d.files disk')) refusal
    pub counted : Counted (d.fault_count disk) (d.fault_count disk') (refusal ≡ O.DiskFault)
    pub left : (a b : Durable) → StandsForEither disk a b → Left digest_of (d.files disk') (d.uncertain disk') a b refusal
    pub crash : (a b : Durable) → StandsForEither disk a b → IsStopped d digest_of disk disk' a b

  -- words and settings were understood, and the opening was refused
  pub record IsNotOpened (disk disk' : D) (line : Option Line) (settings : List ℕ) (note : Note) : Type 0 where
    pub asked : IsSome line
    pub read : IsSettingsFile settings
    pub refusal : OpenRefusal
    pub note_is : note ≡ note_of_refusal refusal
    pub unopened : IsUnopened disk disk' refusal

  -- why no store was opened: the words or the settings were refused, and the disk was left alone; or the opening was refused
  abbrev pub IsCause : D → D → Option Line → List ℕ → Note → Type 0
  IsCause disk disk' line settings note =
      (IsRefused line settings note × (disk' ≡ disk)) ⊎ IsNotOpened disk disk' line settings note

  -- no store was opened, nothing happened to the link, and the clock wasn't asked
  pub record Refuses (disk disk' : D) (line : Option Line) (settings : List ℕ) (link link' : LinkSeen)
      (moments moments' : Option (List ℕ)) (note : Note) : Type 0 where
    pub cause : IsCause disk disk' line settings note
    pub untouched : link' ≡ link
    pub unasked : moments' ≡ moments

  -- If the words are a command line, the settings are a settings file, the disk stands for an office, whatever a crash leaves, and no
  -- count rose (nor does the disk's, the link's or the folder's stand at its type's end), the run ended with 0, with 1, for want of
  -- memory, or because the office had its last epoch.
  abbrev pub IsComplete : D → D → Option Line → List ℕ → (linked linked' : ℕ) → (doors doors' : List ℕ) → (entered entered' : ℕ) → Note
      → Type 0
  IsComplete disk disk' line settings linked linked' doors doors' entered entered' note =
      (a b : Durable) → StandsForEither disk a b → IsSome line → IsSettingsFile settings
      → d.fault_count disk < 2 ^ 64 - 1 → d.fault_count disk' ≡ d.fault_count disk → linked < 2 ^ 64 - 1 → linked' ≡ linked
      → doors' ≡ doors → entered < 2 ^ 64 - 1 → entered' ≡ entered
      → (status_of note ≡ 0) ⊎ ((status_of note ≡ 1) ⊎ ((status_of note ≡ 6) ⊎ ((note ≡ EpochsSpent) × HasLast a b)))
