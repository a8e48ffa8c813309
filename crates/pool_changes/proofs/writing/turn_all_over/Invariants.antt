use Rattle.std.proofs.Common.{drop}
use Rattle.pool_changes.specs.Kept.{slots_of, IsSame}
use Rattle.pool_changes.specs.Relisted.{relisted}
use Rattle.pool_changes.specs.Writing.{layered, IsOver}
use Rattle.pool_changes.proofs.writing.turn_all_over.Given as goal

abbrev pub invariant-loop-id : goal.invariant-loop-id
invariant-loop-id l = record {
  turned : IsSame (relisted l.turn l.ids (layered (slots_of l.names) (slots_of l.fn.over))) (relisted l.turn (drop l.id-index l.ids) (layered (slots_of l.names) (slots_of l.over)));
  over : IsOver (slots_of l.names) (slots_of l.fn.over) → IsOver (slots_of l.names) (slots_of l.over);
}
