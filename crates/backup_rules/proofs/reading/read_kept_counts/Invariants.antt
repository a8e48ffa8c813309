use Rattle.std.specs.Int.{w32}
use Rattle.wire_bytes.specs.Layout.{number_bytes}
use Rattle.wire_bytes.specs.ItemLaws.{ItemsRead}
use Rattle.backup_rules.specs.Ranges.{IsKeepCount}
use Rattle.backup_rules.proofs.reading.read_kept_counts.Given as goal

abbrev pub invariant-loop-i : goal.invariant-loop-i
invariant-loop-i l = ItemsRead (λ _. IsKeepCount) (number_bytes w32) l.fn.reader l.reader l.counts.items l._i l.count
