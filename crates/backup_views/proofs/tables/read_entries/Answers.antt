use Rattle.std.proofs.Common.{List, ℕ, Option, subst, sym}
use Rattle.journal_view.specs.View.{told}
use Rattle.backup_views.specs.Stored.{IsTableFile}
use Rattle.backup_views.specs.FaultLaws.{decoded_damaged}
use Rattle.backup_views.proofs.tables.read_entries.Goals as goal

pub returns-in-Ok-clause-one : goal.returns-in-Ok-clause-one
returns-in-Ok-clause-one g c = λ all rows is_told is.
    c.in-Ok.ensures.one rows (subst (λ (found : Option (List ℕ)). IsTableFile rows found) (sym (c.in_ok-found.ensures.found all is_told)) is)

pub returns-in-Err-clause-damaged : goal.returns-in-Err-clause-damaged
returns-in-Err-clause-damaged g c =
    decoded_damaged (told c.args.journal.now) c.args.host c.args.number c.in-Err.fault c.in_ok-found.found c.in_ok-found.ensures.found c.in-Err.ensures.damaged
