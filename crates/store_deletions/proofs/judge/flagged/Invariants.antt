use Rattle.std.proofs.Common.{◌≡◌, ◌++◌, drop}
use Rattle.office_deletion.specs.ExpiryLaws.{flagged_numbers}
use Rattle.store_deletions.proofs.judge.flagged.Given as goal

abbrev pub invariant-loop-index : goal.invariant-loop-index
invariant-loop-index l = l.numbers.items ++ flagged_numbers (drop l.index l.flags) (drop l.index l.lines) ≡ flagged_numbers l.flags l.lines
