use Rattle.std.specs.Prelude.{◌++◌}
use Rattle.std.proofs.Common.{List, ap, ◌∙◌}
use Rattle.intent_journal.specs.declared.changes.Change.{Change}
use Rattle.store_opening.proofs.Proposing.{next_of}
use Rattle.store_opening.proofs.next.propose.Goals as goal

pub returns : goal.returns
returns g c =
    next_of c.args.found.now.pool c.args.found.now.catalog c.in_ok-catalog.catalog c.in_ok-index.index c.take_changes-pooled.new.self
    c.take_changes-pooled.result c.in_ok-changes.changes c.in_ok-catalog.ensures.proposes c.in_ok-catalog.ensures.fits
    c.in_ok-index.ensures.added c.in_ok-index.ensures.leads c.take_changes-pooled.ensures.changes c.take_changes-pooled.ensures.added
    c.take_changes-pooled.ensures.marked c.take_changes-pooled.ensures.unmarked c.take_changes-pooled.ensures.removed
    (c.in_ok-changes.ensures ∙ ap (λ (cs : List Change). c.take_changes-pooled.result ++ cs) c.changes.ensures)
