-- What a history keeps of a backup that a host has: a number is never used twice, and no event changes what a backup holds.
--     Shown, shown_of      a backup as it is shown: all but its two flags, which stays
--     StaysIn      if the host of a name has a backup of a number, it is this one
--     ListedStays      so it is behind every legal history
use Rattle.std.specs.Prelude.{◌≡◌, ℕ, List, Ok}
use Rattle.attr_records.specs.Items.{Tree}
use Rattle.backup_rules.specs.declared.lines.Kind.{Kind}
use Rattle.backup_rules.specs.declared.lines.Line.{Line}
use Rattle.office_model.specs.Office.{Office, Host, Backup, Names}
use Rattle.office_model.specs.Parts.{backup_of}
use Rattle.office_model.specs.UsedNames.{AreSound}
use Rattle.office_model.specs.Step.{State, Running, Halted}
use Rattle.office_model.specs.History.{Entry, IsHistory, last_state}

-- what a backup is to whoever lists and reads it: its line without the two flags, and its tree
pub record Shown : Type 0 where
  pub number : ℕ
  pub start : ℕ
  pub end : ℕ
  pub kind : Kind
  pub tree : Tree

-- of this line and this tree
abbrev pub shown_as : Line → Tree → Shown
shown_as line tree = record { number = line.number; start = line.start; end = line.end; kind = line.kind; tree = tree }

-- of a backup
abbrev pub shown_of : Backup → Shown
shown_of backup = shown_as backup.line backup.tree

-- if the host of this name has a backup of this number, it is shown as this one
abbrev pub IsStill : List Host → List ℕ → ℕ → Backup → Type 0
IsStill hosts name number was = (now : Backup) → backup_of hosts name number ≡ Ok now → shown_of now ≡ shown_of was

-- of a halted office in each of the two that its disk may have
abbrev pub StaysIn : State → List ℕ → ℕ → Backup → Type 0
StaysIn (Running office names) name number was = IsStill office.hosts name number was
StaysIn (Halted before next names) name number was = IsStill before.hosts name number was × IsStill next.hosts name number was

-- a backup that a sound office's host has stays so through every legal history, or is gone
abbrev pub ListedStays : Type 0
ListedStays = (office : Office) (names : Names) (faults : ℕ) (entries : List Entry) (name : List ℕ) (number : ℕ) (backup : Backup)
    → AreSound office names → IsHistory (Running office names) faults entries → backup_of office.hosts name number ≡ Ok backup
    → StaysIn (last_state (Running office names) entries) name number backup
