-- The rows are those of the file that was read.
use Rattle.store_commits.specs.ParkedLaws.{parked_of}
use Rattle.store_commits.proofs.parked.parked_rows.Goals as goal

pub returns-in-Ok-clause-parked : goal.returns-in-Ok-clause-parked
returns-in-Ok-clause-parked g c =
    parked_of _ c.args.head c.args.host c.in-Ok.parked c.rows_of.result c.rows_of.ensures c.in-Ok.ensures.known c.in-Ok.ensures.parked
