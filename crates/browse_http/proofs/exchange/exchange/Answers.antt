use Rattle.std.proofs.Common.{refl}
use Rattle.std.proofs.lemmas.Result.{err_from_is_err_and, IfErr-weaker, on_ok_weaker}
use Rattle.browse_http.proofs.TalkLemmas.{GoesOn-request, EndsAt-request, EndsAt-uncalled}
use Rattle.browse_http.proofs.exchange.exchange.Goals as goal

pub returns-in_err-head-clause-ends : goal.returns-in_err-head-clause-ends
returns-in_err-head-clause-ends g c =
    let p = err_from_is_err_and c.from_residual.result c.from_residual.ensures.1 in
    rw (p.1, p.2) (EndsAt-uncalled _ _ _ _ _ _ _ _ _ _ _ _ _ (g.met.P.Port.none _) refl c.in_err-head.ensures.ends)

pub returns-clause-goes : goal.returns-clause-goes
returns-clause-goes g c =
    on_ok_weaker c.attend.result (λ attends.
    GoesOn-request _ _ _ _ _ _ _ _ _ _ _ _ _ _ c.request_of-request.result c.in_ok-head.ensures.read c.request_of-request.ensures attends)
    c.attend.ensures.goes

pub returns-clause-ends : goal.returns-clause-ends
returns-clause-ends g c =
    IfErr-weaker c.attend.result _ _ (λ end attends.
    EndsAt-request _ _ _ _ _ _ _ _ _ _ _ _ _ _ c.request_of-request.result c.in_ok-head.ensures.read c.request_of-request.ensures end attends)
    c.attend.ensures.ends
