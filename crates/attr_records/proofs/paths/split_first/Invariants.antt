use Rattle.std.proofs.Common.{◌≡◌, take, drop}
use Rattle.attr_records.specs.Paths.{components}
use Rattle.attr_records.proofs.Prefixes.{with_prefix}
use Rattle.attr_records.proofs.paths.split_first.Given as goal

abbrev pub invariant-loop-i : goal.invariant-loop-i
invariant-loop-i l = components l.path ≡ with_prefix (take l.i l.path) (components (drop l.i l.path))
