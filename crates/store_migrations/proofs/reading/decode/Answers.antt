-- What was read is the table of the file, and the only one.
use Rattle.std.proofs.Common.{subst, Option, Some, List, ℕ, inr, sym, ap, ◌∙◌}
use Rattle.backup_views.specs.declared.fault.ViewFault.TheVariants.{Damaged}
use Rattle.backup_views.specs.Stored.{IsTableFile}
use Rattle.backup_views.specs.FileLaws.{read_none}
use Rattle.store_migrations.specs.Migrated.{IsTableRead}
use Rattle.store_migrations.specs.PlanLaws.{table_read}
use Rattle.store_migrations.proofs.reading.decode.Goals as goal

pub returns-in-Ok-clause-is : goal.returns-in-Ok-clause-is
returns-in-Ok-clause-is c =
    subst (λ (found : Option (List ℕ)). IsTableRead c.in-Ok.read found) (ap Some c.as_slice.ensures ∙ sym c.in-Some.is)
    (table_read c.as_slice.result.now c.in-Ok.read c.in-Ok.ensures)

pub returns-in-Err-BadTable-clause-damaged : goal.returns-in-Err-BadTable-clause-damaged
returns-in-Err-BadTable-clause-damaged c =
    inr (
      ap (λ (found : Option (List ℕ)). Damaged c.args.file found) (sym c.in-Some.is),
      λ rows is.
          read_none c.as_slice.result.now c.in-Err-BadTable.field-0 c.in-Err-BadTable.field-0-0 c.in-Err-BadTable.field-0-is c.in-Err-BadTable.ensures rows
          (subst (λ (found : Option (List ℕ)). IsTableFile rows found) (c.in-Some.is ∙ ap Some (sym c.as_slice.ensures)) is),
    )
