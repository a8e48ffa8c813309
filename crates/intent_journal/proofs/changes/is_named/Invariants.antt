use Rattle.std.proofs.Common.{◌≡◌, drop}
use Rattle.intent_journal.specs.Changes.{names}
use Rattle.intent_journal.proofs.changes.is_named.Given as goal

abbrev pub invariant-loop-change : goal.invariant-loop-change
invariant-loop-change l = names l.changes l.file ≡ names (drop l.change-index l.changes) l.file
