-- The files of stages that a sweep takes away.
--     is_left opened file      the file of a stage that isn't open
--     without test files all      the files without those of a list that a test passes
--     OnlyOpen opened all told      no stage has a file but those that are open, and these files are as they were
--     StagesStay all told      the files of all stages are as they were
--     Drops old test all new      calls that took away files that a test passes: the others stay
use Rattle.std.specs.Prelude.{◌≡◌, ℕ, Bool, true, false, not, ◌==◌, ◌||◌, if◌then◌else◌, List, [], ◌∷◌, Option, Some, None, is_some}
use Rattle.std.specs.List.{position_from}
use Rattle.disk_trait.specs.declared.ids.FileId.{FileId}
use Rattle.disk_trait.specs.declared.ids.FileId.TheVariants.{Stage as StageFile}
use Rattle.disk_trait.specs.declared.disk.Disk.{Ghosts as DiskGhosts}
use Rattle.disk_trait.specs.Files.{Files, with_bytes}
use Rattle.intent_journal.specs.declared.journal.Journal.{Journal}
use Rattle.journal_view.specs.Found.{IsAlikeBut}
use Rattle.journal_view.specs.View.{told, uncertain, FindsOnly}
use Rattle.open_sessions.specs.declared.stages.OpenStage.{OpenStage}

module _ {S : Type 0} where
  abbrev pub is_open : List (OpenStage S) → ℕ → Bool
  is_open opened number = is_some (position_from (λ stage. stage.number == number) 0 opened)

  abbrev pub is_left : List (OpenStage S) → FileId → Bool
  is_left opened (StageFile number) = not (is_open opened number)
  is_left opened file = false

  pub record OnlyOpen (opened : List (OpenStage S)) (all : Files) (told : Option Files) : Type 0 where
    pub now : Files
    pub is : told ≡ Some now
    pub gone : (number : ℕ) → is_open opened number ≡ false → now (StageFile number) ≡ None
    pub stays : (number : ℕ) → is_open opened number ≡ true → now (StageFile number) ≡ all (StageFile number)

-- the files of all stages are as they were
abbrev pub StagesStay : Files → Option Files → Type 0
StagesStay all told = (now : Files) × (told ≡ Some now) × ((number : ℕ) → now (StageFile number) ≡ all (StageFile number))

abbrev pub without : (FileId → Bool) → List FileId → Files → Files
without test [] all = all
without test (file ∷ files) all = without test files (if test file then with_bytes all file None else all)

module _ {D : Type 0} {d : DiskGhosts D} where
  pub record Drops (old : Journal D d) (test : FileId → Bool) (all : Files) (new : Journal D d) : Type 0 where
    pub now : Files
    pub told_is : told new ≡ Some now
    pub others : (asked : FileId) → test asked ≡ false → now asked ≡ all asked
    pub certain : (asked : FileId) → test asked ≡ false → uncertain old asked ≡ false → uncertain new asked ≡ false
    pub halted_same : new.halted ≡ old.halted
    pub crash : FindsOnly old new (IsAlikeBut all (λ asked. test asked || uncertain old asked))
