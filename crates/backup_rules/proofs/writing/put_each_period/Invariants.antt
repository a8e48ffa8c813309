use Rattle.std.proofs.Common.{◌≡◌, ◌++◌, take}
use Rattle.wire_bytes.specs.Breaks.{items_bytes}
use Rattle.backup_rules.specs.Parts.{period_bytes}
use Rattle.backup_rules.proofs.writing.put_each_period.Given as goal

abbrev pub invariant-loop-period : goal.invariant-loop-period
invariant-loop-period l = l.out.items ≡ l.initial.out.items ++ items_bytes period_bytes (take l.period-index l.periods)
