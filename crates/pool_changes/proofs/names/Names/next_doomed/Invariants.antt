use Rattle.std.specs.List.Sorted.{IsStrictlySortedBy}
use Rattle.std.specs.Map.{keys_of}
use Rattle.pool_index.specs.Items.{id_cmp}
use Rattle.pool_changes.specs.Kept.{slots_of}
use Rattle.pool_changes.proofs.Ranging.{AreLeft}
use Rattle.pool_changes.proofs.names.Names.next_doomed.Given as goal

abbrev pub invariant-loop-id : goal.invariant-loop-id
invariant-loop-id l = record {
  sorted : IsStrictlySortedBy id_cmp (keys_of l.id-iterator);
  left : AreLeft (slots_of l.self) l.fn.from l.id-iterator;
}
