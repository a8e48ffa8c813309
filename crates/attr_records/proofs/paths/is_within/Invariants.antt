use Rattle.std.proofs.Common.{◌≡◌, ◌≤◌, length, drop}
use Rattle.attr_records.specs.Paths.{is_within}
use Rattle.attr_records.proofs.paths.is_within.Given as goal

abbrev pub invariant-loop-i : goal.invariant-loop-i
invariant-loop-i l =
    record { within : l.i ≤ length l.path; same : is_within (drop l.i l.directory) (drop l.i l.path) ≡ is_within l.directory l.path }
