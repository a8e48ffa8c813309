use Rattle.std.proofs.Common.{◌≡◌, ◌≤◌, ◌-◌, length, drop}
use Rattle.attr_records.specs.Paths.{path_cmp}
use Rattle.attr_records.proofs.paths.shared_prefix.Given as goal

abbrev pub invariant-loop-prefix : goal.invariant-loop-prefix
invariant-loop-prefix l = record { within_a : l.prefix ≤ length l.a; within_b : l.prefix ≤ length l.b; same : path_cmp (drop l.prefix l.a) (drop l.prefix l.b) ≡ path_cmp l.a l.b }

abbrev pub decreases-loop-prefix : goal.decreases-loop-prefix
decreases-loop-prefix l = length l.a - l.prefix
