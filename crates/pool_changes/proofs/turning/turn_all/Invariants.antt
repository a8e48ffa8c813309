use Rattle.std.proofs.Common.{drop}
use Rattle.pool_changes.specs.Kept.{slots_of, IsSame}
use Rattle.pool_changes.specs.Relisted.{relisted}
use Rattle.pool_changes.proofs.turning.turn_all.Given as goal

abbrev pub invariant-loop-id : goal.invariant-loop-id
invariant-loop-id l = IsSame (relisted l.turn l.ids (slots_of l.fn.names)) (relisted l.turn (drop l.id-index l.ids) (slots_of l.names))
