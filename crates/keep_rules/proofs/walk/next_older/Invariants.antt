-- No line from the index on is a filled one of the group.
use Rattle.std.proofs.Common.{◌≡◌, take}
use Rattle.keep_rules.specs.Keeping.{next_older}
use Rattle.keep_rules.proofs.walk.next_older.Given as goal

abbrev pub invariant-loop-index : goal.invariant-loop-index
invariant-loop-index l = next_older l.rules l.now l.group l.older ≡ next_older l.rules l.now l.group (take l.index l.older)
