-- Whether a reader of the number is open.
--     no_reader_said      a rule that was broken says nothing of it
--     has_reader      one that is there
use Rattle.std.specs.Prelude.{◌≡◌, ℕ, Some, Ok, Err, slice_get}
use Rattle.std.specs.Result.{IsErrAnd}
use Rattle.std.proofs.Common.{sym, subst}
use Rattle.disk_trait.specs.declared.disk.Disk.{Ghosts as DiskGhosts}
use Rattle.pool_name.specs.declared.namer.Namer.{Ghosts as NamerGhosts}
use Rattle.office_model.specs.declared.refusal.BrokenRule.{BrokenRule}
use Rattle.office_model.specs.declared.refusal.Refusal.{Refusal}
use Rattle.office_model.specs.declared.refusal.Refusal.TheVariants as R
use Rattle.office_model.specs.Meaning.{Reply}
use Rattle.open_sessions.specs.declared.readers.OpenReader.{OpenReader}
use Rattle.store_parts.specs.declared.parts.StoreParts.{StoreParts}
use Rattle.store_parts.specs.FoundLaws.{reader_place}
use Rattle.store_readers.specs.Finding.{HasReader}

module _ {D N S : Type 0} {d : DiskGhosts D} {n : NamerGhosts N S} where
  pub no_reader_said : (old : StoreParts D N S d n) (number : ℕ) (reply : Reply) (rule : BrokenRule)
      → IsErrAnd reply (λ refusal. refusal ≡ R.Broken rule) → HasReader old number reply
  no_reader_said old number (Ok answer) rule e = absurd e
  no_reader_said old number (Err refusal) rule e = subst (λ (r : Refusal). HasReader old number (Err r)) (sym e) tt

  pub has_reader : (old : StoreParts D N S d n) (number place : ℕ) (reader : OpenReader S)
      → Some place ≡ reader_place old number → slice_get old.sessions.readers.items.items place ≡ Some reader
      → (reply : Reply) → HasReader old number reply
  has_reader old number place reader numbered here (Ok answer) =
      record { place = place; reader = reader; numbered = numbered; here = here }
  has_reader old number place reader numbered here (Err (R.Damaged file found)) =
      record { place = place; reader = reader; numbered = numbered; here = here }
  has_reader old number place reader numbered here (Err (R.Broken rule)) = tt
  has_reader old number place reader numbered here (Err R.Halted) = tt
  has_reader old number place reader numbered here (Err R.DiskFault) = tt
  has_reader old number place reader numbered here (Err R.Memory) = tt
