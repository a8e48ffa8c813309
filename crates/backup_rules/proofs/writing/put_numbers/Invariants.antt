use Rattle.std.proofs.Common.{◌≡◌, ◌++◌, take}
use Rattle.std.specs.Int.{w32}
use Rattle.wire_bytes.specs.Layout.{number_bytes}
use Rattle.wire_bytes.specs.Breaks.{items_bytes}
use Rattle.backup_rules.proofs.writing.put_numbers.Given as goal

abbrev pub invariant-loop-number : goal.invariant-loop-number
invariant-loop-number l = l.out.items ≡ l.initial.out.items ++ items_bytes (number_bytes w32) (take l.number-index l.numbers)
