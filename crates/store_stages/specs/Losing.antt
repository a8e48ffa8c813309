-- The file of a stage that somebody else has changed.
--     IsLost old number file      it is told, and isn't as long as what was put into the open stage of this number
--     NamesLost old number reply      a file that is said to be damaged is so lost
use Rattle.std.specs.Prelude.{⊤, ◌≡◌, ◌≢◌, ℕ, List, length, Some, Err, slice_get}
use Rattle.disk_trait.specs.declared.ids.FileId.{FileId}
use Rattle.disk_trait.specs.declared.ids.FileId.TheVariants.{Stage as StageFile}
use Rattle.disk_trait.specs.declared.disk.Disk.{Ghosts as DiskGhosts}
use Rattle.disk_trait.specs.Files.{Files}
use Rattle.pool_name.specs.declared.namer.Namer.{Ghosts as NamerGhosts}
use Rattle.journal_view.specs.View.{told}
use Rattle.open_sessions.specs.declared.stages.OpenStage.{OpenStage}
use Rattle.office_model.specs.declared.refusal.Refusal.TheVariants.{Damaged}
use Rattle.office_model.specs.Meaning.{Reply}
use Rattle.store_parts.specs.declared.parts.StoreParts.{StoreParts}
use Rattle.store_parts.specs.FoundLaws.{stage_place}

module _ {D N S : Type 0} {d : DiskGhosts D} {n : NamerGhosts N S} where
  -- it is absent, or has another number of bytes
  pub record IsLost (old : StoreParts D N S d n) (number : ℕ) (file : FileId) : Type 0 where
    pub at : ℕ
    pub held : OpenStage S
    pub place : Some at ≡ stage_place old number
    pub there : slice_get old.sessions.stages.items.items at ≡ Some held
    pub is : file ≡ StageFile number
    pub other : (all : Files) (content : List ℕ) → told old.journal ≡ Some all → all file ≡ Some content → length content ≢ held.size

  abbrev pub NamesLost : StoreParts D N S d n → ℕ → Reply → Type 0
  NamesLost old number (Err (Damaged file found)) = IsLost old number file
  NamesLost old number reply = ⊤
