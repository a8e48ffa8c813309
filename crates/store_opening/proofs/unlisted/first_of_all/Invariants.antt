use Rattle.std.proofs.Common.{◌≡◌, drop}
use Rattle.pool_changes.specs.Kept.{slots_of}
use Rattle.pool_changes.specs.Listed.{index_of}
use Rattle.store_opening.specs.Unlisted.{first_of_all}
use Rattle.store_opening.proofs.unlisted.first_of_all.Given as goal

abbrev pub invariant-loop-of_host : goal.invariant-loop-of_host
invariant-loop-of_host g l =
    first_of_all (index_of (slots_of l.pool.names)) (drop l.of_host-index l.counts) ≡ first_of_all (index_of (slots_of l.pool.names)) l.counts
