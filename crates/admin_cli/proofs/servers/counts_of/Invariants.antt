use Rattle.std.proofs.Common.{◌≡◌, map, take}
use Rattle.admin_cli.proofs.servers.counts_of.Given as goal

abbrev pub invariant-loop-worker : goal.invariant-loop-worker
invariant-loop-worker g l = l.counts.items ≡ map (λ worker. g.T.Door.faults worker.door) (take l.worker-index l.workers)
