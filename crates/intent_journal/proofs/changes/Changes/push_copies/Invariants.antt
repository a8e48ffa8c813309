-- The changes so far: those before, and copies of the first of the others.
use Rattle.std.proofs.Common.{◌≡◌, ◌++◌, take}
use Rattle.intent_journal.proofs.changes.Changes.push_copies.Given as goal

abbrev pub invariant-loop-change : goal.invariant-loop-change
invariant-loop-change l = l.self ≡ l.fn.self ++ take l.change-index l.others
