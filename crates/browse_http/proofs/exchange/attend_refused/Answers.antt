use Rattle.std.proofs.Common.{refl}
use Rattle.std.proofs.lemmas.Result.{IfErr-weaker, on_ok_weaker}
use Rattle.browse_http.specs.Serving.{CallsNothing}
use Rattle.browse_http.proofs.AttendLemmas.{staged-refused, stopped_uncalled, refused_attends, refused_attends_last}
use Rattle.browse_http.proofs.exchange.attend_refused.Goals as goal

pub returns-in-Err-clause-ends : goal.returns-in-Err-clause-ends
returns-in-Err-clause-ends g c = λ defaults.
    stopped_uncalled defaults _ CallsNothing (λ p. refl) tt _ _ _ _ _ _ _ _ _ _ _ _ (staged-refused _ c.args.refusal c.requires) c.in-Err.ensures.some
    c.end_body.ensures.left c.skip_rest.ensures.written c.end_body.ensures.ends

pub returns-clause-goes : goal.returns-clause-goes
returns-clause-goes g c =
    on_ok_weaker c.answer_refused.result (λ said defaults.
    refused_attends defaults _ _ _ _ _ _ _ _ _ _ _ _ _ _ c.skip_rest.ensures.written c.args.refusal c.in-Ok.ensures.all.0 c.now.ensures.first
    c.now.ensures.later c.answer_refused.ensures.left c.requires c.in-Ok.ensures.all.1 said)
    c.answer_refused.ensures.goes

pub returns-clause-ends : goal.returns-clause-ends
returns-clause-ends g c =
    IfErr-weaker c.answer_refused.result _ _ (λ end said defaults.
    refused_attends_last defaults _ _ _ _ _ _ _ _ _ _ _ _ _ _ c.skip_rest.ensures.written c.args.refusal c.in-Ok.ensures.all.0 c.now.ensures.first
    c.now.ensures.later c.answer_refused.ensures.left c.requires c.in-Ok.ensures.all.1 end said)
    c.answer_refused.ensures.ends
