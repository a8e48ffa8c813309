use Rattle.std.proofs.Common.{refl, sym, ◌∙◌, subst}
use Rattle.intent_journal.specs.Changes.{AreChanges}
use Rattle.intent_journal.specs.ChangesLaws.{are_more}
use Rattle.bench_journal.proofs.changes.changes_of.Goals as goal

pub loop-host-preserved : goal.loop-host-preserved
loop-host-preserved c =
    subst AreChanges (sym c.in_ok-push.ensures.ok)
    (are_more _ _ c.loop-host.invariant refl (sym c.names_file.ensures ∙ c.if-names_file.false))
