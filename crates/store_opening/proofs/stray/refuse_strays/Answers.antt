use Rattle.std.proofs.Common.{sym, ◌∙◌}
use Rattle.store_opening.proofs.Strays.{no_stray, a_stray, first_seen}
use Rattle.store_opening.proofs.stray.refuse_strays.Goals as goal

pub returns-in-None-clause-none : goal.returns-in-None-clause-none
returns-in-None-clause-none g c = λ all is.
    no_stray all c.in-Ok.files c.args.catalog.now c.has.result c.as_slice.result.now
    (c.in-Ok.ensures.found all is) c.has.ensures c.as_slice.ensures (sym c.first_stray.ensures ∙ c.in-None.is)

pub refusal_with-requires-clause-seen : goal.refusal_with-requires-clause-seen
refusal_with-requires-clause-seen g c =
    first_seen c.args.catalog.now.hosts c.has.result c.as_slice.result.now c.in-Some.file (sym c.first_stray.ensures ∙ c.in-Some.is)

pub returns-in-Some-clause-stray : goal.returns-in-Some-clause-stray
returns-in-Some-clause-stray g c = λ file found e all is holds.
    let f = c.refusal_with.ensures.foreign file found e in
    a_stray all c.in-Ok.files c.args.catalog.now c.has.result c.as_slice.result.now (c.in-Ok.ensures.found all is) c.has.ensures
    c.as_slice.ensures c.in-Some.file file found (sym c.first_stray.ensures ∙ c.in-Some.is) f.0
    (f.1 all (c.in-Ok.ensures.quiet.told_same ∙ is)) c.is_named_by_byte.ensures holds
