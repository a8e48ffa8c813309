use Rattle.std.proofs.lemmas.Result.{IfErr-weaker, on_ok_weaker}
use Rattle.browse_http.proofs.AttendLemmas.{stopped_staged, staged_goes, staged_ends}
use Rattle.browse_http.proofs.exchange.attend_staged.Goals as goal

pub returns-in-Err-clause-ends : goal.returns-in-Err-clause-ends
returns-in-Err-clause-ends g c = λ defaults.
    stopped_staged defaults _ c.args.put _ _ _ _ _ _ _ _ _ _ _ _ _ _ _ c.requires c.in-Err.ensures.calls c.end_body.ensures.left c.put_in_stages.ensures.written
    c.end_body.ensures.ends

pub returns-clause-goes : goal.returns-clause-goes
returns-clause-goes g c =
    on_ok_weaker c.respond.result (λ said defaults.
    staged_goes defaults _ _ _ _ _ _ _ _ _ _ _ _ _ _ _ _ _ c.put_in_stages.ensures.written c.now.ensures.first c.now.ensures.later c.respond.ensures.left c.args.put
    c.in-Ok.answered c.requires c.in-Ok.ensures.calls said)
    c.respond.ensures.goes

pub returns-clause-ends : goal.returns-clause-ends
returns-clause-ends g c =
    IfErr-weaker c.respond.result _ _ (λ end said defaults.
    staged_ends defaults _ _ _ _ _ _ _ _ _ _ _ _ _ _ _ _ _ c.put_in_stages.ensures.written c.now.ensures.first c.now.ensures.later c.respond.ensures.left c.args.put
    c.in-Ok.answered end c.requires c.in-Ok.ensures.calls said)
    c.respond.ensures.ends
