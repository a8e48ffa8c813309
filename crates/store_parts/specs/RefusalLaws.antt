-- Laws of refusals.
--     view_disk, view_memory, view_damaged      which fault of a view is which refusal
--     view_fault      a fault that only a damaged file could make, if such a file can't be there
--     broken_by, runs_broken_by      what refused a look-up by its rule
use Rattle.std.specs.Prelude.{◌≡◌, ℕ, List, Option, Result, Ok, Err}
use Rattle.std.specs.Result.{IsErrAnd}
use Rattle.std.proofs.Common.{refl, sym, ap, ◌∙◌, subst}
use Rattle.disk_trait.specs.declared.ids.FileId.{FileId}
use Rattle.disk_trait.specs.declared.disk.Disk.{Ghosts as DiskGhosts}
use Rattle.pool_name.specs.declared.namer.Namer.{Ghosts as NamerGhosts}
use Rattle.backup_views.specs.declared.fault.ViewFault.{ViewFault}
use Rattle.backup_views.specs.declared.fault.ViewFault.TheVariants as V
use Rattle.office_model.specs.declared.event.Event.{Event}
use Rattle.office_model.specs.declared.refusal.BrokenRule.{BrokenRule}
use Rattle.office_model.specs.declared.refusal.Refusal.{Refusal}
use Rattle.office_model.specs.declared.refusal.Refusal.TheVariants as R
use Rattle.office_model.specs.Office.{Office, Names}
use Rattle.office_model.specs.Meaning.{Reply}
use Rattle.store_parts.specs.declared.parts.StoreParts.{StoreParts}
use Rattle.store_parts.specs.States.{IsRunning}
use Rattle.store_parts.specs.Runs.{Runs}
use Rattle.store_parts.specs.Refusals.{refusal_of_view, IsReadFault}

pub view_disk : (fault : ViewFault) → refusal_of_view fault ≡ R.DiskFault → fault ≡ V.Disk
view_disk V.Disk e = refl
view_disk V.Memory e = absurd cc
view_disk (V.Damaged file found) e = absurd cc

pub view_memory : (fault : ViewFault) → refusal_of_view fault ≡ R.Memory → fault ≡ V.Memory
view_memory V.Disk e = absurd cc
view_memory V.Memory e = refl
view_memory (V.Damaged file found) e = absurd cc

pub view_damaged : (fault : ViewFault) (file : FileId) (found : Option (List ℕ)) → refusal_of_view fault ≡ R.Damaged file found
    → fault ≡ V.Damaged file found
view_damaged V.Disk file found e = absurd cc
view_damaged V.Memory file found e = absurd cc
view_damaged (V.Damaged file' found') file found e = cc

-- what a `?` made of a rule
pub broken_by : {A : Type 0} (reply : Result A Refusal) (rule known : BrokenRule) → IsErrAnd reply (λ refusal. refusal ≡ R.Broken rule)
    → rule ≡ known → reply ≡ Err (R.Broken known)
broken_by (Ok x) rule known is same = absurd is
broken_by (Err refusal) rule known is same = ap (λ (r : Refusal). Err r) (is ∙ ap (λ (r : BrokenRule). R.Broken r) same)

module _ {D N S : Type 0} {d : DiskGhosts D} {n : NamerGhosts N S} where
  pub view_fault : (parts : StoreParts D N S d n) (fault : ViewFault)
      → ((file : FileId) (found : Option (List ℕ)) → fault ≡ V.Damaged file found
      → (office : Office) (names : Names) → IsRunning parts office names → ⊥) → IsReadFault parts (refusal_of_view fault)
  view_fault parts V.Disk sound = tt
  view_fault parts V.Memory sound = tt
  view_fault parts (V.Damaged file found) sound = sound file found refl

  -- an event that is refused so
  pub runs_broken_by : (old new : StoreParts D N S d n) (event : Event) (reply : Reply) (rule known : BrokenRule)
      → IsErrAnd reply (λ refusal. refusal ≡ R.Broken rule) → rule ≡ known → Runs old event (Err (R.Broken known)) new
      → Runs old event reply new
  runs_broken_by old new event reply rule known is same runs =
      subst (λ (r : Reply). Runs old event r new) (sym (broken_by reply rule known is same)) runs
