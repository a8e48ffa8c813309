use Rattle.std.proofs.Common.{◌≡◌, ◌+◌, ◌≤◌, not, is_some, length, drop}
use Rattle.std.specs.List.{filter}
use Rattle.dump_session.specs.Edits.{left_at}
use Rattle.dump_session.proofs.removed.count_fresh.Given as goal

abbrev pub invariant-loop-path : goal.invariant-loop-path
invariant-loop-path l = record {
  few : l.count ≤ l.path-index;
  told : l.count + length (filter (λ path. not (is_some (left_at l.base l.removed.entries path))) (drop l.path-index l.paths)) ≡ length (filter (λ path. not (is_some (left_at l.base l.removed.entries path))) l.paths);
}
