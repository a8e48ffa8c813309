use Rattle.std.proofs.Common.{take, ap, ◌∙◌}
use Rattle.std.proofs.lemmas.Result.{IfErr-weaker, on_ok_weaker}
use Rattle.browse_http.proofs.AttendLemmas.{staged-none, stopped_uncalled, planned_goes, planned_ends}
use Rattle.browse_http.proofs.exchange.attend_planned.Goals as goal

pub returns-in-Err-clause-ends : goal.returns-in-Err-clause-ends
returns-in-Err-clause-ends g c =
    stopped_uncalled _ _ _ g.met.P.Port.none _ _ _ _ _ _ _ _ _ _ _ _ _ (staged-none _ c.args.plan c.requires.planned c.requires.whole) c.in-Err.ensures.some
    c.end_body.ensures.left c.read_kept.ensures.written c.end_body.ensures.ends

pub returns-clause-goes : goal.returns-clause-goes
returns-clause-goes g c =
    let all = c.in-Ok.ensures.all in
    on_ok_weaker c.carry_out.result (λ carries.
    planned_goes _ _ _ _ _ _ _ _ _ _ _ _ _ _ _ _ _ _ c.read_kept.ensures.written c.args.plan c.in-Ok.kept.items all.0 _ c.now.ensures.first c.now.ensures.later
    c.carry_out.ensures.left c.requires.body c.requires.planned c.requires.whole all.1 (all.2 ∙ ap (λ n. take n all.0) c.looked_at.ensures.value)
    c.event_of-judged.ensures carries)
    c.carry_out.ensures.goes

pub returns-clause-ends : goal.returns-clause-ends
returns-clause-ends g c =
    let all = c.in-Ok.ensures.all in
    IfErr-weaker c.carry_out.result _ _ (λ end carries.
    planned_ends _ _ _ _ _ _ _ _ _ _ _ _ _ _ _ _ _ _ c.read_kept.ensures.written c.args.plan c.in-Ok.kept.items all.0 _ c.now.ensures.first c.now.ensures.later
    c.carry_out.ensures.left c.requires.body c.requires.planned c.requires.whole all.1 (all.2 ∙ ap (λ n. take n all.0) c.looked_at.ensures.value)
    c.event_of-judged.ensures end carries)
    c.carry_out.ensures.ends
