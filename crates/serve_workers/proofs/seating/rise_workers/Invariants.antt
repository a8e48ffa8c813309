use Rattle.std.proofs.Common.{◌≡◌, ◌≤◌, ◌+◌, ◌++◌, length, map, vec_capacity}
use Rattle.std.specs.Vec.Iter.{into_iter_items, into_iter_len}
use Rattle.serve_workers.proofs.seating.rise_workers.Given as goal

abbrev pub invariant-loop-caller : goal.invariant-loop-caller
invariant-loop-caller g l = record {
  left : l.yielded ++ into_iter_items l.caller-iterator ≡ into_iter_items l.initial.caller-iterator;
  count : into_iter_len l.caller-iterator ≡ length (into_iter_items l.caller-iterator);
  workers : l.workers.items ≡ map (λ c. c.worker) l.yielded;
  passes : l.passes.items ≡ map (λ c. c.port.pass) l.yielded;
  workers_room : length l.workers.items + length (into_iter_items l.caller-iterator) ≤ vec_capacity l.workers;
  passes_room : length l.passes.items + length (into_iter_items l.caller-iterator) ≤ vec_capacity l.passes;
}
