use Rattle.std.proofs.Common.{◌≡◌, ◌++◌}
use Rattle.office_model.specs.events.PoolList.{items_of}
use Rattle.tree_office.proofs.pooled.items_of.Given as goal

-- what was listed, and what is still to be
abbrev pub invariant-loop-id : goal.invariant-loop-id
invariant-loop-id l = l.items ++ items_of l.part l.pool.entries l.id-iterator ≡ items_of l.part l.pool.entries l.ids.entries
