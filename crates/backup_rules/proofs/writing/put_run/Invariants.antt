use Rattle.std.proofs.Common.{◌≡◌, ◌++◌}
use Rattle.std.specs.Int.{w32}
use Rattle.wire_bytes.specs.Layout.{number_bytes}
use Rattle.wire_bytes.specs.Breaks.{items_bytes}
use Rattle.backup_rules.specs.Runs.{run}
use Rattle.backup_rules.proofs.writing.put_run.Given as goal

abbrev pub invariant-loop-i : goal.invariant-loop-i
invariant-loop-i l = l.out.items ≡ l.initial.out.items ++ items_bytes (number_bytes w32) (run l.first l.i l.numbers)
