use Rattle.journal_view.specs.View.{told}
use Rattle.backup_views.specs.FaultLaws.{decoded_damaged}
use Rattle.store_migrations.proofs.reading.read_stored.Goals as goal

pub returns-in-Err-clause-damaged : goal.returns-in-Err-clause-damaged
returns-in-Err-clause-damaged g c =
    decoded_damaged (told c.args.journal.now) c.args.host c.args.number c.in-Err.fault c.in_ok-found.found c.in_ok-found.ensures.found c.in-Err.ensures.damaged
