-- A piece of a content.
--     IsPieceFault parts content offset room refusal      why there is none: a file that is absent or ends before, with what was
--         found; a fault of the disk; want of memory
use Rattle.std.specs.Prelude.{⊤, ◌≡◌, ◌≢◌, ℕ, List, length, Option, Some, None}
use Rattle.disk_trait.specs.declared.ids.PoolId.{PoolId}
use Rattle.disk_trait.specs.declared.ids.FileId.{FileId}
use Rattle.disk_trait.specs.declared.ids.FileId.TheVariants.{Pool as PoolFile}
use Rattle.disk_trait.specs.declared.disk.Disk.{Ghosts as DiskGhosts}
use Rattle.disk_trait.specs.Files.{Files, piece}
use Rattle.intent_journal.specs.declared.fault.JournalFault.{JournalFault}
use Rattle.intent_journal.specs.declared.fault.JournalFault.TheVariants as J
use Rattle.pool_name.specs.declared.namer.Namer.{Ghosts as NamerGhosts}
use Rattle.journal_view.specs.View.{told}
use Rattle.office_model.specs.declared.refusal.Refusal.{Refusal}
use Rattle.office_model.specs.declared.refusal.Refusal.TheVariants as R
use Rattle.store_parts.specs.declared.parts.StoreParts.{StoreParts}

abbrev pub refusal_of_journal : JournalFault → Refusal
refusal_of_journal J.Disk = R.DiskFault
refusal_of_journal J.Memory = R.Memory
refusal_of_journal J.Halted = R.Halted

-- nothing, or another number of bytes
abbrev pub IsOther : ℕ → Option (List ℕ) → Type 0
IsOther room None = ⊤
IsOther room (Some found) = length found ≢ room

-- this file has no such piece, but what was found
pub record HasNoPiece (told : Option Files) (content : PoolId) (offset room : ℕ) (file : FileId) (found : Option (List ℕ)) : Type 0 where
  pub named : file ≡ PoolFile content
  pub there : (all : Files) → told ≡ Some all → found ≡ piece (all file) offset room
  pub other : IsOther room found

module _ {D N S : Type 0} {d : DiskGhosts D} {n : NamerGhosts N S} where
  abbrev pub IsPieceFault : StoreParts D N S d n → PoolId → ℕ → ℕ → Refusal → Type 0
  IsPieceFault parts content offset room (R.Damaged file found) = HasNoPiece (told parts.journal) content offset room file found
  IsPieceFault parts content offset room R.DiskFault = ⊤
  IsPieceFault parts content offset room R.Memory = ⊤
  IsPieceFault parts content offset room refusal = ⊥
