use Rattle.std.proofs.Common.{subst, Option, Some, ◌≡◌, List, ℕ, inr, sym, ap, ◌∙◌}
use Rattle.backup_views.specs.declared.fault.ViewFault.TheVariants.{Damaged}
use Rattle.merge_view.specs.Views.{Rows}
use Rattle.backup_views.specs.Stored.{IsTableFile}
use Rattle.backup_views.specs.FileLaws.{read_is, read_one, read_none}
use Rattle.backup_views.proofs.tables.decode.Goals as goal

pub returns-in-Ok-clause-is : goal.returns-in-Ok-clause-is
returns-in-Ok-clause-is c =
    subst (λ (table : Rows). IsTableFile table c.args.found) (sym c.table_of.ensures)
    (subst (λ (found : Option (List ℕ)). IsTableFile c.in-Ok.read.table found) (ap Some c.as_slice.ensures ∙ sym c.in-Some.is)
    (read_is c.as_slice.result.now c.in-Ok.read c.in-Ok.ensures))

pub returns-in-Ok-clause-one : goal.returns-in-Ok-clause-one
returns-in-Ok-clause-one c = λ rows is.
    read_one c.as_slice.result.now c.in-Ok.read c.in-Ok.ensures rows
    (subst (λ (found : Option (List ℕ)). IsTableFile rows found) (c.in-Some.is ∙ ap Some (sym c.as_slice.ensures)) is)
    ∙ sym c.table_of.ensures

pub returns-in-Err-BadTable-clause-damaged : goal.returns-in-Err-BadTable-clause-damaged
returns-in-Err-BadTable-clause-damaged c =
    inr (
      ap (λ (found : Option (List ℕ)). Damaged c.args.file found) (sym c.in-Some.is),
      λ rows is.
          read_none c.as_slice.result.now c.in-Err-BadTable.field-0 c.in-Err-BadTable.field-0-0 c.in-Err-BadTable.field-0-is c.in-Err-BadTable.ensures rows
          (subst (λ (found : Option (List ℕ)). IsTableFile rows found) (c.in-Some.is ∙ ap Some (sym c.as_slice.ensures)) is),
    )
