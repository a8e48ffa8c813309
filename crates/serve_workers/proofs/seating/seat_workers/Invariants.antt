use Rattle.std.proofs.Common.{◌≡◌, ◌≤◌, ◌+◌, ◌++◌, [], ◌∷◌, length, vec_capacity}
use Rattle.std.specs.Vec.Iter.{into_iter_items, into_iter_len}
use Rattle.turn_lock.specs.History.{caller}
use Rattle.serve_workers.specs.Seated.{AreSeated}
use Rattle.serve_workers.proofs.seating.seat_workers.Given as goal

abbrev pub invariant-loop-worker : goal.invariant-loop-worker
invariant-loop-worker g l = record {
  left : l.yielded ++ into_iter_items l.worker-iterator ≡ into_iter_items l.initial.worker-iterator;
  count : into_iter_len l.worker-iterator ≡ length (into_iter_items l.worker-iterator);
  room : length l.callers.items + length (into_iter_items l.worker-iterator) ≤ vec_capacity l.callers;
  own : l.first.seat.table_id ≡ l.initial.first.seat.table_id;
  opening : l.first.seat.me.0.opening ≡ l.initial.first.seat.me.0.opening;
  split : l.first.seat.me.0.callers ≡ caller [] (length l.yielded) [] ∷ [];
  seated : AreSeated (λ port. port.pass.seat.table_id) (λ port. port.pass.seat.me.0) l.initial.first.seat.table_id 0 l.yielded
      l.callers.items;
}
