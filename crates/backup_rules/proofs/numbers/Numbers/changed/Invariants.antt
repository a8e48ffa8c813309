use Rattle.std.proofs.Common.{◌≡◌, take}
use Rattle.backup_rules.specs.Changes.{changed_numbers}
use Rattle.backup_rules.proofs.numbers.Numbers.changed.Given as goal

abbrev pub invariant-loop-index : goal.invariant-loop-index
invariant-loop-index l = take l.index l.numbers ≡ take l.index (changed_numbers l.named l.self)
