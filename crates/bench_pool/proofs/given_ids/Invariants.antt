use Rattle.pool_changes.specs.Kept.{slots_of}
use Rattle.pool_changes.specs.Indexed.{AreGiven}
use Rattle.bench_pool.proofs.given_ids.Given as goal

abbrev pub invariant-loop-id : goal.invariant-loop-id
invariant-loop-id l = AreGiven (slots_of l.pool.names) l.given.items
