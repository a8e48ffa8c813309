use Rattle.std.proofs.Common.{◌≡◌, ◌++◌}
use Rattle.std.specs.Vec.Iter.{into_iter_items}
use Rattle.folder_laws.specs.Calls.{remove_calls}
use Rattle.folder_walk.proofs.dumping.remove_all.Given as goal

abbrev pub invariant-loop-path : goal.invariant-loop-path
invariant-loop-path g l = record {
  left : l.yielded ++ into_iter_items l.path-iterator ≡ into_iter_items l.initial.path-iterator;
  moved : g.P.Port.moves l.fn.port (remove_calls l.dump l.yielded) l.port;
}
