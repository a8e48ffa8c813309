use Rattle.std.proofs.lemmas.Result.{IfErr-weaker, on_ok_weaker}
use Rattle.browse_http.proofs.AttendLemmas.{stopped_early, attends_quietly, attends_last_quietly}
use Rattle.browse_http.proofs.exchange.attend.Goals as goal

pub returns-in-Staged-clause-goes : goal.returns-in-Staged-clause-goes
returns-in-Staged-clause-goes g c =
    on_ok_weaker c.attend_staged.result (λ attends. attends c.args.interface.now.defaults) c.attend_staged.ensures.goes

pub returns-in-Staged-clause-ends : goal.returns-in-Staged-clause-ends
returns-in-Staged-clause-ends g c =
    IfErr-weaker c.attend_staged.result _ _ (λ end attends. attends c.args.interface.now.defaults) c.attend_staged.ensures.ends

pub returns-in-Err-Refused-clause-goes : goal.returns-in-Err-Refused-clause-goes
returns-in-Err-Refused-clause-goes g c =
    on_ok_weaker c.attend_refused.result (λ attends.
    attends_quietly _ _ _ g.met.P.Port.none _ _ _ _ _ _ _ _ _ _ (attends c.args.interface.now.defaults))
    c.attend_refused.ensures.goes

pub returns-in-Err-Refused-clause-ends : goal.returns-in-Err-Refused-clause-ends
returns-in-Err-Refused-clause-ends g c =
    IfErr-weaker c.attend_refused.result _ _ (λ end attends.
    attends_last_quietly _ _ _ g.met.P.Port.none _ _ _ _ _ _ _ _ _ _ end (attends c.args.interface.now.defaults))
    c.attend_refused.ensures.ends

pub returns-in-Err-Memory-clause-ends : goal.returns-in-Err-Memory-clause-ends
returns-in-Err-Memory-clause-ends g c = stopped_early _ _ _ g.met.P.Port.none _ _ _ _ _ _ _ _ _ _ c.give_up.ensures.left c.give_up.ensures.says
