use Rattle.std.proofs.Common.{◌≡◌, drop}
use Rattle.pool_changes.specs.Kept.{slots_of}
use Rattle.pool_changes.specs.Listed.{index_of}
use Rattle.store_opening.specs.Unlisted.{first_unlisted}
use Rattle.store_opening.proofs.unlisted.first_unlisted.Given as goal

abbrev pub invariant-loop-item : goal.invariant-loop-item
invariant-loop-item g l =
    first_unlisted (index_of (slots_of l.pool.names)) (drop l.item-index l.items) ≡ first_unlisted (index_of (slots_of l.pool.names)) l.items
