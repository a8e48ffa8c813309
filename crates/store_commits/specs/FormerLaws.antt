-- What reading the former newest's table comes to.
--     fold_fault, fold_memory      a fault of reading it, and want of memory
--     folded_line, folded_some      what was read
use Rattle.std.specs.Prelude.{◌≡◌, ℕ, Option, Some, Result, Ok, Err, IfErr}
use Rattle.std.specs.Result.{IsErrAnd}
use Rattle.std.proofs.Common.{refl, sym, ◌∙◌, subst}
use Rattle.disk_trait.specs.declared.ids.FileId.{FileId}
use Rattle.disk_trait.specs.declared.ids.FileId.TheVariants.{Table as TableFile}
use Rattle.disk_trait.specs.Files.{Files}
use Rattle.backup_rules.specs.declared.lines.Line.{Line}
use Rattle.merge_view.specs.Views.{Rows, reverse}
use Rattle.backup_views.specs.Stored.{IsTableFile}
use Rattle.backup_views.specs.Faults.{SaysDamaged}
use Rattle.backup_views.specs.declared.fault.ViewFault.{ViewFault}
use Rattle.backup_views.specs.declared.fault.ViewFault.TheVariants as V
use Rattle.office_model.specs.declared.refusal.Refusal.{Refusal}
use Rattle.office_model.specs.declared.refusal.Refusal.TheVariants as R
use Rattle.store_parts.specs.Refusals.{refusal_of_view}
use Rattle.store_commits.specs.declared.former.Folding.{Folding}
use Rattle.store_commits.specs.Former.{IsFoldedLine, IsFolded, IsFoldFault}

fault_is : (told : Option Files) (host number : ℕ) (fault : ViewFault) → SaysDamaged told host number fault
    → IsFoldFault told (TableFile host number) (refusal_of_view fault)
fault_is told host number V.Disk says = tt
fault_is told host number V.Memory says = tt
fault_is told host number (V.Damaged file found) says = says file found refl

pub fold_fault : (told : Option Files) (host number : ℕ) (fault : ViewFault) (refusal : Refusal) → refusal ≡ refusal_of_view fault
    → SaysDamaged told host number fault → IsFoldFault told (TableFile host number) refusal
fold_fault told host number fault refusal is says =
    subst (IsFoldFault told (TableFile host number)) (sym is) (fault_is told host number fault says)

pub fold_memory : {T : Type 0} (told : Option Files) (file : FileId) (reply : Result T Refusal) → IsErrAnd reply (λ refusal. refusal ≡ R.Memory)
    → IfErr reply (IsFoldFault told file)
fold_memory told file (Ok folding) is = absurd is
fold_memory told file (Err refusal) is = subst (IsFoldFault told file) (sym is) tt

pub folded_line : (told : Option Files) (host number : ℕ) (newer : Rows) (folding : Folding)
    → ((all : Files) → told ≡ Some all → IsTableFile folding.rows (all (TableFile host number)))
    → ((all : Files) (rows : Rows) → told ≡ Some all → IsTableFile rows (all (TableFile host number)) → rows ≡ folding.rows)
    → folding.number ≡ number → folding.entries ≡ reverse folding.rows newer → (line : Line) → line.number ≡ number
    → IsFoldedLine told host line newer folding
folded_line told host number newer folding there only is entries line same = record {
  number = is ∙ sym same;
  there = λ all e. subst (λ (k : ℕ). IsTableFile folding.rows (all (TableFile host k))) (sym same) (there all e);
  entries = entries;
  only = λ all other e table.
      only all other e (subst (λ (k : ℕ). IsTableFile other (all (TableFile host k))) same table);
}

pub folded_some : (told : Option Files) (host : ℕ) (line : Line) (dropped : Option Line) (newer : Rows) (folding : Folding) → dropped ≡ Some line
    → IsFoldedLine told host line newer folding → IsFolded told host dropped newer (Some folding)
folded_some told host line dropped newer folding is folded =
    subst (λ (d : Option Line). IsFolded told host d newer (Some folding)) (sym is) folded
