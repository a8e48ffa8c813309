-- What the calls of a journal give and leave.
--     Opens, Refuses      an opening that went well, and one that didn't
--     Commits             a commit
--     Reads               a call that reads
--     Touches             a call that writes, extends or takes away one content or stage
use Rattle.std.specs.Prelude.{◌≡◌, ◌⊎◌, ◌↔◌, ℕ, List, Option, Some, true, false, Result, Err, OnOk, OnErr}
use Rattle.fault_counts.specs.Counts.{Counted}
use Rattle.disk_trait.specs.declared.ids.FileId.{FileId}
use Rattle.disk_trait.specs.declared.ids.FileId.TheVariants.{Intent, Gate}
use Rattle.disk_trait.specs.declared.disk.Disk.{Ghosts}
use Rattle.disk_trait.specs.Files.{Files, SameButOne}
use Rattle.disk_trait.specs.Images.{FileSet, nothing, also, IsWithin, MayLeave, Leaves, LeavesOnly}
use Rattle.intent_journal.specs.declared.changes.Change.{Change}
use Rattle.intent_journal.specs.declared.fault.JournalFault.{JournalFault}
use Rattle.intent_journal.specs.declared.fault.JournalFault.TheVariants.{Disk, Halted, Memory}
use Rattle.intent_journal.specs.declared.fault.OpenJournalFault.{OpenJournalFault}
use Rattle.intent_journal.specs.declared.fault.OpenJournalFault.TheVariants.{Foreign, Disk as DiskFault}
use Rattle.intent_journal.specs.declared.journal.Journal.{Journal}
use Rattle.intent_journal.specs.Changes.{applied}
use Rattle.intent_journal.specs.Layout.{is_open}
use Rattle.intent_journal.specs.Overlay.{ComesTo, IsRecoverable, IsAtRest, IsEmptied, IsForeign, IsBeforeOrAfter, Looks, LooksDurably, Recovers, SyncsStages}

-- The disk was opened: of the files that it came to, it has now the metadata, contents and stages, all of them durable;
-- and a crash since left what it might have left at the start, up to the first sync, and from then on what comes to them.
pub record Opens {D : Type 0} {d : Ghosts D} (disk : D) (journal : Journal D d) : Type 0 where
  pub running : journal.halted ≡ false
  -- Foreign was no answer
  pub recoverable : (all : Files) → d.files disk ≡ Some all → IsRecoverable all
  pub at_rest : (all files : Files) → d.files disk ≡ Some all → ComesTo files nothing all
      → IsAtRest (d.files journal.disk) (d.uncertain journal.disk) files
  pub recovers : (all files : Files) → d.files disk ≡ Some all → ComesTo files nothing all
      → Recovers d.files d.uncertain d.moment d.left_since disk journal.disk files
  -- where Gate was closed nothing was written; where it was open, Intent is empty
  pub shut : (all : Files) → d.files disk ≡ Some all → is_open (all Gate) ≡ false
      → LooksDurably d.files d.uncertain d.moment d.left_since disk journal.disk
  pub emptied : (all : Files) → d.files disk ≡ Some all → is_open (all Gate) ≡ true → IsEmptied (d.files journal.disk)
  pub counted : Counted (d.fault_count disk) (d.fault_count journal.disk) ⊥

-- The disk wasn't opened.
pub record Refuses {D : Type 0} (told : D → Option Files) (uncertain : D → FileSet) (moment : D → ℕ)
    (left_since : D → ℕ → Files → Type 0) (count : D → ℕ) (old new : D) (fault : OpenJournalFault) : Type 0 where
  pub any_moment : (all files : Files) → told old ≡ Some all → ComesTo files nothing all
      → Leaves moment left_since old new (MayLeave (told old) (uncertain old)) ⊎ Recovers told uncertain moment left_since old new files
  pub foreign : (file : FileId) (found : Option (List ℕ)) → fault ≡ Foreign file found → (file ≡ Intent) × IsForeign (told old) found
  -- unless the disk failed, nothing was written
  pub unwritten : (fault ≡ DiskFault → ⊥) → Looks told uncertain moment left_since old new
  pub counted : Counted (count old) (count new) (fault ≡ DiskFault)

-- A commit: whatever it answers, each crash since its start left the files before it or after it; at Ok those after it
-- are there, durable, and the changes stand in Intent no more.
pub record Commits {D : Type 0} {d : Ghosts D} (old : Journal D d) (changes : List Change)
    (result : Result (Unit {0}) JournalFault) (new : Journal D d) : Type 0 where
  pub halted : (result ≡ Err Halted) ↔ (old.halted ≡ true)
  pub any_moment : old.halted ≡ false → (all : Files) → d.files old.disk ≡ Some all
      → LeavesOnly d.moment d.left_since old.disk new.disk (IsBeforeOrAfter all (d.uncertain old.disk) changes)
  -- from its first sync on no content or stage is uncertain; up to it each crash left the files before
  pub stages : old.halted ≡ false → (all : Files) → d.files old.disk ≡ Some all
      → LeavesOnly d.moment d.left_since old.disk new.disk (ComesTo all (d.uncertain old.disk))
      ⊎ SyncsStages d.moment d.left_since old.disk new.disk all (d.uncertain old.disk) changes
  pub done : OnOk result ((new.halted ≡ false) × ((all : Files) → d.files old.disk ≡ Some all
      → IsAtRest (d.files new.disk) (d.uncertain new.disk) (applied changes all)))
  pub emptied : OnOk result (IsEmptied (d.files new.disk))
  -- whatever a crash leaves now comes to the files after it
  pub kept : OnOk result ((all image : Files) → d.files old.disk ≡ Some all → MayLeave (d.files new.disk) (d.uncertain new.disk) image
      → ComesTo (applied changes all) nothing image)
  pub stopped : result ≡ Err Disk → new.halted ≡ true
  -- nothing was done
  pub unwritten : (result ≡ Err Halted) ⊎ (result ≡ Err Memory) → (new.disk ≡ old.disk) × (new.halted ≡ old.halted)
  pub counted : Counted (d.fault_count old.disk) (d.fault_count new.disk) (result ≡ Err Disk)

-- a call that reads: the files stay, and a crash leaves what it might have left at the start
pub record Reads {D : Type 0} {d : Ghosts D} (old new : Journal D d) : Type 0 where
  pub stays : new.halted ≡ old.halted
  pub looks : Looks d.files d.uncertain d.moment d.left_since old.disk new.disk

-- A call that changes one content or stage: the metadata and the other contents and stages stay, in each image too.
pub record Touches {D : Type 0} {d : Ghosts D} (old : Journal D d) (file : FileId) (after : Option Files)
    (result : Result (Unit {0}) JournalFault) (new : Journal D d) : Type 0 where
  pub stays : new.halted ≡ old.halted
  pub halted : (result ≡ Err Halted) ↔ (old.halted ≡ true)
  pub no_memory_asked : result ≡ Err Memory → ⊥
  pub told : OnOk result (d.files new.disk ≡ after)
  pub failed : OnErr result (SameButOne file (d.files old.disk) (d.files new.disk))
  -- nothing was done
  pub unwritten : result ≡ Err Halted → new.disk ≡ old.disk
  pub certain : IsWithin (d.uncertain new.disk) (also (d.uncertain old.disk) file)
  pub any_moment : old.halted ≡ false → (all : Files) → d.files old.disk ≡ Some all
      → LeavesOnly d.moment d.left_since old.disk new.disk (ComesTo all (also (d.uncertain old.disk) file))
  pub counted : Counted (d.fault_count old.disk) (d.fault_count new.disk) (result ≡ Err Disk)
