use Rattle.backup_rules.specs.Parts.{period_bytes}
use Rattle.wire_bytes.specs.ItemLaws.{ItemsRead}
use Rattle.backup_rules.specs.Ranges.{IsPeriod}
use Rattle.backup_rules.proofs.reading.read_counted_periods.Given as goal

abbrev pub invariant-loop-i : goal.invariant-loop-i
invariant-loop-i l = ItemsRead (λ _. IsPeriod) period_bytes l.fn.reader l.reader l.periods.items l._i l.count
