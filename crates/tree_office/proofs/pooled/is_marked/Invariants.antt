use Rattle.std.proofs.Common.{◌≡◌, false}
use Rattle.std.specs.Option.{unwrap_or}
use Rattle.office_model.specs.Pool.{mark_of}
use Rattle.tree_office.proofs.pooled.is_marked.Given as goal

-- what is still to be looked at decides
abbrev pub invariant-loop-pooled : goal.invariant-loop-pooled
invariant-loop-pooled l = unwrap_or (mark_of l.pooled-iterator l.content) false ≡ unwrap_or (mark_of l.pool.entries l.content) false
