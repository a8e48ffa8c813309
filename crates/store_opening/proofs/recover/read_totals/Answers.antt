use Rattle.std.proofs.Common.{inl, inr, ◌∙◌}
use Rattle.journal_view.specs.ViewLaws.{Quiet-then}
use Rattle.store_opening.proofs.recover.read_totals.Goals as goal

pub returns-in-Err-clause-foreign : goal.returns-in-Err-clause-foreign
returns-in-Err-clause-foreign g c = λ file found e all is holds. inl (c.in-Err.ensures.foreign file found e all is holds)

pub returns-in-Ok-read_partials-clause-partials : goal.returns-in-Ok-read_partials-clause-partials
returns-in-Ok-read_partials-clause-partials g c = λ all is. c.in-Ok-read_partials.ensures.told all (c.in-Ok.ensures.quiet.told_same ∙ is)

pub returns-in-Ok-read_partials-clause-quiet : goal.returns-in-Ok-read_partials-clause-quiet
returns-in-Ok-read_partials-clause-quiet g c = Quiet-then c.args.journal.now c.read_counts.new.journal _ c.in-Ok.ensures.quiet
    c.in-Ok-read_partials.ensures.quiet

pub returns-in-Err-read_partials-clause-foreign : goal.returns-in-Err-read_partials-clause-foreign
returns-in-Err-read_partials-clause-foreign g c = λ file found e all is holds.
    inr (c.in-Err-read_partials.ensures.foreign file found e all (c.in-Ok.ensures.quiet.told_same ∙ is) holds)

pub returns-in-Err-read_partials-clause-quiet : goal.returns-in-Err-read_partials-clause-quiet
returns-in-Err-read_partials-clause-quiet g c = Quiet-then c.args.journal.now c.read_counts.new.journal _ c.in-Ok.ensures.quiet
    c.in-Err-read_partials.ensures.quiet
