use Rattle.std.proofs.Common.{◌≡◌, ◌≤◌, length, drop}
use Rattle.attr_records.specs.Paths.{path_cmp}
use Rattle.attr_records.proofs.paths.compare_bytes.Given as goal

abbrev pub invariant-loop-i : goal.invariant-loop-i
invariant-loop-i l = record { within : l.i ≤ length l.b; same : path_cmp (drop l.i l.a) (drop l.i l.b) ≡ path_cmp l.a l.b }
