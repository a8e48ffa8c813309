use Rattle.std.proofs.Common.{◌≡◌, ◌≤◌, length, drop, None}
use Rattle.attr_records.specs.Paths.{parent}
use Rattle.attr_records.proofs.paths.parent.Given as goal

abbrev pub invariant-loop-at : goal.invariant-loop-at
invariant-loop-at l = record { within : l.at ≤ length l.path; none : parent (drop l.at l.path) ≡ None }

abbrev pub decreases-loop-at : goal.decreases-loop-at
decreases-loop-at l = l.at
