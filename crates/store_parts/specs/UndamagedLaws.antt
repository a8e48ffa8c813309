-- Replies that say of no file that it is damaged.
--     undamaged_memory, undamaged_broken      want of memory, and a broken rule
--     undamaged_write      a refusal of a commit
use Rattle.std.specs.Prelude.{◌≡◌, Ok, Err}
use Rattle.std.specs.Result.{IsErrAnd}
use Rattle.std.proofs.Common.{sym, subst}
use Rattle.office_model.specs.declared.refusal.BrokenRule.{BrokenRule}
use Rattle.office_model.specs.declared.refusal.Refusal.{Refusal}
use Rattle.office_model.specs.declared.refusal.Refusal.TheVariants as R
use Rattle.office_model.specs.Meaning.{Reply}
use Rattle.office_model.specs.History.{IsUndamaged}
use Rattle.store_parts.specs.Writes.{IsWriteFault}

pub undamaged_memory : (reply : Reply) → IsErrAnd reply (λ refusal. refusal ≡ R.Memory) → IsUndamaged reply
undamaged_memory (Ok answer) e = absurd e
undamaged_memory (Err refusal) e = subst (λ (r : Refusal). IsUndamaged (Err r)) (sym e) tt

pub undamaged_broken : (reply : Reply) (rule : BrokenRule) → IsErrAnd reply (λ refusal. refusal ≡ R.Broken rule) → IsUndamaged reply
undamaged_broken (Ok answer) rule e = absurd e
undamaged_broken (Err refusal) rule e = subst (λ (r : Refusal). IsUndamaged (Err r)) (sym e) tt

pub undamaged_write : (refusal : Refusal) → IsWriteFault refusal → IsUndamaged (Err refusal)
undamaged_write (R.Broken rule) fault = tt
undamaged_write R.Halted fault = tt
undamaged_write R.DiskFault fault = tt
undamaged_write (R.Damaged file found) fault = absurd fault
undamaged_write R.Memory fault = tt
