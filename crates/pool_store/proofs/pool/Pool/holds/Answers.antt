use Rattle.pool_store.proofs.Sourcing.{of_memory}
use Rattle.pool_store.proofs.pool.Pool.holds.Goals as goal

pub returns-in-Err-clause-fault : goal.returns-in-Err-clause-fault
returns-in-Err-clause-fault g c =
    of_memory c.args.content (g.D.Disk.files c.args.journal.now.disk) c.in-Err.fault c.in-Err.ensures.fault c.in-Err.ensures.lost
