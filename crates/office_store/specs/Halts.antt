-- Calls after which a store is halted, over any disk.
--     IsForeignReopening call, FindsForeign calls      a reopening, among these calls, found a file that isn't the store's
--     HasStopCause before now calls      why they halted a store: the disk's count rose, or that
--     HasFailed calls      one of the calls was answered that the disk failed, or that the store is halted
use Rattle.std.specs.Prelude.{◌≡◌, ◌⊎◌, ℕ, List, [], ◌∷◌, Option, Err}
use Rattle.fault_counts.specs.Counts.{Rose}
use Rattle.disk_trait.specs.declared.ids.FileId.{FileId}
use Rattle.office_model.specs.declared.event.Event.TheVariants.{Reopen}
use Rattle.office_model.specs.declared.refusal.Refusal.TheVariants.{Halted, DiskFault, Damaged}
use Rattle.office_model.specs.Meaning.{Reply}
use Rattle.office_model.specs.Step.{Call}

pub record IsForeignReopening (call : Call) : Type 0 where
  pub file : FileId
  pub found : Option (List ℕ)
  pub is : call ≡ (Reopen, Err (Damaged file found))

abbrev pub FindsForeign : List Call → Type 0
FindsForeign [] = ⊥
FindsForeign (call ∷ calls) = IsForeignReopening call ⊎ FindsForeign calls

abbrev pub HasStopCause : (before now : ℕ) → List Call → Type 0
HasStopCause before now calls = Rose before now ⊎ FindsForeign calls

abbrev pub IsFailure : Reply → Type 0
IsFailure reply = (reply ≡ Err DiskFault) ⊎ (reply ≡ Err Halted)

abbrev pub HasFailed : List Call → Type 0
HasFailed [] = ⊥
HasFailed (call ∷ calls) = IsFailure call.1 ⊎ HasFailed calls
