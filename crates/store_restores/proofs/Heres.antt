-- Whether a restore of the name is open.
--     no_restore_said      a rule that was broken says nothing of it
--     has_restore      one that is there
use Rattle.std.specs.Prelude.{◌≡◌, ℕ, Some, Ok, Err, slice_get}
use Rattle.std.specs.Result.{IsErrAnd}
use Rattle.std.proofs.Common.{sym, subst}
use Rattle.disk_trait.specs.declared.disk.Disk.{Ghosts as DiskGhosts}
use Rattle.pool_name.specs.declared.namer.Namer.{Ghosts as NamerGhosts}
use Rattle.office_model.specs.declared.refusal.BrokenRule.{BrokenRule}
use Rattle.office_model.specs.declared.refusal.Refusal.{Refusal}
use Rattle.office_model.specs.declared.refusal.Refusal.TheVariants as R
use Rattle.receipts.specs.declared.session.SessionName.{SessionName}
use Rattle.office_model.specs.Meaning.{Reply}
use Rattle.open_sessions.specs.declared.sessions.OpenRestore.{OpenRestore}
use Rattle.store_parts.specs.declared.parts.StoreParts.{StoreParts}
use Rattle.store_restores.specs.Finding.{place_of, HasRestore}

module _ {D N S : Type 0} {d : DiskGhosts D} {n : NamerGhosts N S} where
  pub no_restore_said : (old : StoreParts D N S d n) (name : SessionName) (reply : Reply) (rule : BrokenRule)
      → IsErrAnd reply (λ refusal. refusal ≡ R.Broken rule) → HasRestore old name reply
  no_restore_said old name (Ok answer) rule e = absurd e
  no_restore_said old name (Err refusal) rule e = subst (λ (r : Refusal). HasRestore old name (Err r)) (sym e) tt

  pub has_restore : (old : StoreParts D N S d n) (name : SessionName) (place : ℕ) (session : OpenRestore S)
      → Some place ≡ place_of old.sessions.restores.items name → slice_get old.sessions.restores.items place ≡ Some session
      → (reply : Reply) → HasRestore old name reply
  has_restore old name place session named here (Ok answer) = record { place = place; session = session; named = named; here = here }
  has_restore old name place session named here (Err (R.Damaged file found)) =
      record { place = place; session = session; named = named; here = here }
  has_restore old name place session named here (Err (R.Broken rule)) = tt
  has_restore old name place session named here (Err R.Halted) = tt
  has_restore old name place session named here (Err R.DiskFault) = tt
  has_restore old name place session named here (Err R.Memory) = tt
