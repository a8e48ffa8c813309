use Rattle.std.proofs.Common.{inl, inr, ◌∙◌}
use Rattle.journal_view.specs.ViewLaws.{Quiet-then}
use Rattle.store_parts.specs.KnownOffice.{known_of_office, stands_catalog}
use Rattle.store_opening.proofs.HostTotals.{never_without}
use Rattle.store_opening.proofs.recover.read_hosts.Goals as goal

pub returns-in-Err-clause-foreign : goal.returns-in-Err-clause-foreign
returns-in-Err-clause-foreign g c = λ file found e. inl (c.in-Err.ensures.foreign file found e)

pub returns-in-Err-clause-complete : goal.returns-in-Err-clause-complete
returns-in-Err-clause-complete g c = λ digest_of all office is s file found e.
    c.in-Err.ensures.complete all (known_of_office office) is (stands_catalog digest_of s.index s.shown all office s.stands) file found e

pub returns-in-Ok-read_totals-clause-counts : goal.returns-in-Ok-read_totals-clause-counts
returns-in-Ok-read_totals-clause-counts g c = λ all is. c.in-Ok-read_totals.ensures.counts all (c.in-Ok.ensures.quiet.told_same ∙ is)

pub returns-in-Ok-read_totals-clause-partials : goal.returns-in-Ok-read_totals-clause-partials
returns-in-Ok-read_totals-clause-partials g c = λ all is. c.in-Ok-read_totals.ensures.partials all (c.in-Ok.ensures.quiet.told_same ∙ is)

pub returns-in-Ok-read_totals-clause-quiet : goal.returns-in-Ok-read_totals-clause-quiet
returns-in-Ok-read_totals-clause-quiet g c = Quiet-then c.args.journal.now c.read_catalog.new.journal _ c.in-Ok.ensures.quiet
    c.in-Ok-read_totals.ensures.quiet

pub returns-in-Err-read_totals-clause-foreign : goal.returns-in-Err-read_totals-clause-foreign
returns-in-Err-read_totals-clause-foreign g c = λ file found e.
    inr (λ all is.
    c.in-Err-read_totals.ensures.foreign file found e all (c.in-Ok.ensures.quiet.told_same ∙ is) (c.in-Ok.ensures.opened all is))

pub returns-in-Err-read_totals-clause-complete : goal.returns-in-Err-read_totals-clause-complete
returns-in-Err-read_totals-clause-complete g c = λ digest_of all office is s file found e.
    never_without digest_of s.index s.shown all office s.stands file found
    (c.in-Err-read_totals.ensures.foreign file found e all (c.in-Ok.ensures.quiet.told_same ∙ is) (c.in-Ok.ensures.opened all is))

pub returns-in-Err-read_totals-clause-quiet : goal.returns-in-Err-read_totals-clause-quiet
returns-in-Err-read_totals-clause-quiet g c = Quiet-then c.args.journal.now c.read_catalog.new.journal _ c.in-Ok.ensures.quiet
    c.in-Err-read_totals.ensures.quiet
