use Rattle.intent_journal.proofs.LayoutLaws.{ChangesRead}
use Rattle.intent_journal.proofs.intent.read_changes.Given as goal

abbrev pub invariant-loop-i : goal.invariant-loop-i
invariant-loop-i l = ChangesRead l.fn.reader l.reader l.changes l._i l.count
