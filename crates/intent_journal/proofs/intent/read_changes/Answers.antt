-- A further change, and where there is none.
use Rattle.intent_journal.proofs.LayoutLaws.{changes_read_more, no_changes}
use Rattle.intent_journal.proofs.intent.read_changes.Goals as goal

pub returns-in-Err-clause-back : goal.returns-in-Err-clause-back
returns-in-Err-clause-back c = no_changes _ _ _ _ _ _ c.loop-i-test.true c.loop-i.invariant c.in-Err.ensures.back

pub loop-i-preserved : goal.loop-i-preserved
loop-i-preserved c = changes_read_more _ _ _ _ _ _ _ c.loop-i-test.true c.loop-i.invariant c.in-Ok.ensures.found c.in-Ok.ensures.back
