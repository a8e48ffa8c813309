-- What a store knows of a journal: what an opening finds of it, now and since earlier.
--     told journal      the files as committed, where the disk tells them and the journal isn't halted
--     FindsNow journal P      whatever a crash leaves now, an opening finds what has P
--     FindsOnly old new P      a crash since any earlier moment leaves what it left before, or what an opening finds to have P
use Rattle.std.specs.Prelude.{◌≡◌, ◌⊎◌, ◌≤◌, ℕ, true, false, List, Option, Some, Result, Err, OnOk, is_some, option_map}
use Rattle.fault_counts.specs.Counts.{Counted}
use Rattle.disk_trait.specs.declared.ids.FileId.{FileId}
use Rattle.disk_trait.specs.declared.disk.Disk.{Ghosts}
use Rattle.disk_trait.specs.Names.{is_same_file}
use Rattle.disk_trait.specs.Files.{Files}
use Rattle.disk_trait.specs.Images.{FileSet, nothing, also, IsWithin, MayLeave, Leaves}
use Rattle.intent_journal.specs.declared.changes.Change.{Change}
use Rattle.intent_journal.specs.declared.fault.JournalFault.{JournalFault}
use Rattle.intent_journal.specs.declared.fault.JournalFault.TheVariants.{Disk, Halted, Memory}
use Rattle.intent_journal.specs.declared.journal.Journal.{Journal}
use Rattle.intent_journal.specs.Changes.{applied}
use Rattle.intent_journal.specs.Overlay.{intent_alone}
use Rattle.journal_view.specs.Found.{seen, IsFoundIn, Finds, FindsAll, CanFind, IsAlikeBut}

-- the files before a commit or after it, as an opening finds them
abbrev pub IsOldOrNew : Files → FileSet → List Change → Files → Type 0
IsOldOrNew all uncertain changes found = IsAlikeBut all uncertain found ⊎ IsAlikeBut (applied changes all) nothing found

-- what a disk promises of moments
abbrev pub CountsNow : {D : Type 0} → Ghosts D → Type 0
CountsNow {D} d =
    (disk : D) (t : ℕ) (image : Files) → t ≤ d.moment disk → MayLeave (d.files disk) (d.uncertain disk) image → d.left_since disk t image

abbrev pub OnlyNow : {D : Type 0} → Ghosts D → Type 0
OnlyNow {D} d = (disk : D) (image : Files) → d.left_since disk (d.moment disk) image → MayLeave (d.files disk) (d.uncertain disk) image

module _ {D : Type 0} {d : Ghosts D} where
  -- the files as committed, as a store sees them, where the disk tells them
  abbrev pub told : Journal D d → Option Files
  told journal = option_map seen (d.files journal.disk)

  abbrev pub uncertain : Journal D d → FileSet
  uncertain journal = d.uncertain journal.disk

  abbrev pub moment : Journal D d → ℕ
  moment journal = d.moment journal.disk

  -- what an opening may find after a crash now
  abbrev pub MayFind : Journal D d → Files → Type 0
  MayFind journal = CanFind (d.files journal.disk) (uncertain journal)

  -- what it might have found after a crash at some moment from t on
  pub record FoundSince (journal : Journal D d) (t : ℕ) (found : Files) : Type 0 where
    pub image : Files
    pub left : d.left_since journal.disk t image
    pub in_image : IsFoundIn image found

  -- whatever a crash leaves now, an opening finds something, and it has P
  abbrev pub FindsNow : Journal D d → (Files → Type 0) → Type 0
  FindsNow journal P = FindsAll (d.files journal.disk) (uncertain journal) P

  -- From old on time has gone to new, and a crash since any earlier moment left what it left before, or what an opening finds to have P.
  abbrev pub FindsOnly : Journal D d → Journal D d → (Files → Type 0) → Type 0
  FindsOnly old new P = Leaves d.moment d.left_since old.disk new.disk (Finds P)

  -- nothing has changed, but that contents and stages may have become certain
  pub record Quiet (old new : Journal D d) : Type 0 where
    pub told_same : told new ≡ told old
    pub certain : IsWithin (uncertain new) (uncertain old)
    pub halted_same : new.halted ≡ old.halted
    pub now : (found : Files) → MayFind new found → MayFind old found
    pub crash : (all : Files) → told old ≡ Some all → FindsOnly old new (IsAlikeBut all (uncertain old))

  -- A commit. After Ok every file that a store sees is durable.
  pub record Committed (old : Journal D d) (changes : List Change) (result : Result (Unit {0}) JournalFault)
      (new : Journal D d) : Type 0 where
    pub ready : OnOk result (new.halted ≡ false)
    pub done : OnOk result (told new ≡ option_map (applied changes) (told old))
    pub certain : OnOk result (is_some (told old) ≡ true → IsWithin (uncertain new) intent_alone)
    pub memory : result ≡ Err Memory → Quiet old new
    pub stopped : result ≡ Err Disk → new.halted ≡ true
    pub running : result ≡ Err Halted → ⊥
    pub crash : (all : Files) → told old ≡ Some all → FindsOnly old new (IsOldOrNew all (uncertain old) changes)
    pub now : (all : Files) → told old ≡ Some all → FindsNow new (IsOldOrNew all (uncertain old) changes)
    pub tells : is_some (told old) ≡ true → is_some (told new) ≡ true
    pub counted : Counted (d.fault_count old.disk) (d.fault_count new.disk) (result ≡ Err Disk)

  -- A call that changes one content or stage: the others stay, and the metadata.
  pub record Staged (old : Journal D d) (file : FileId) (all : Files) (new : Journal D d) : Type 0 where
    pub now : Files
    pub told_is : told new ≡ Some now
    pub others : (asked : FileId) → is_same_file asked file ≡ false → now asked ≡ all asked
    pub certain : IsWithin (uncertain new) (also (uncertain old) file)
    pub halted_same : new.halted ≡ old.halted
    pub crash : FindsOnly old new (IsAlikeBut all (also (uncertain old) file))
