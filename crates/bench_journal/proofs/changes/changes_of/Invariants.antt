use Rattle.intent_journal.specs.Changes.{AreChanges}
use Rattle.bench_journal.proofs.changes.changes_of.Given as goal

abbrev pub invariant-loop-host : goal.invariant-loop-host
invariant-loop-host l = AreChanges l.changes
