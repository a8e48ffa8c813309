use Rattle.std.proofs.Common.{sym, ◌∙◌}
use Rattle.std.proofs.lemmas.Result.{IfErr-weaker, on_ok_weaker}
use Rattle.browse_http.proofs.FileLemmas.{file_carried, file_carried_last, one_carries, one_carries_last}
use Rattle.browse_http.proofs.exchange.carry_event.Goals as goal

pub returns-then-is_open-clause-goes : goal.returns-then-is_open-clause-goes
returns-then-is_open-clause-goes g c =
    on_ok_weaker c.send_file.result (λ carries. file_carried _ _ _ _ _ c.args.event.now _ _ (sym c.is_open.ensures ∙ c.if-is_open.true) carries)
    c.send_file.ensures.goes

pub returns-then-is_open-clause-ends : goal.returns-then-is_open-clause-ends
returns-then-is_open-clause-ends g c =
    IfErr-weaker c.send_file.result _ _
    (λ end carries. file_carried_last _ _ _ _ _ c.args.event.now _ _ end (sym c.is_open.ensures ∙ c.if-is_open.true) carries)
    c.send_file.ensures.ends

pub returns-clause-goes : goal.returns-clause-goes
returns-clause-goes g c =
    on_ok_weaker c.respond.result
    (λ answers. one_carries _ _ _ _ _ c.args.event.now _ _ _ (sym c.is_open.ensures ∙ c.if-is_open.false) c.call-reply.ensures.moved answers)
    c.respond.ensures.goes

pub returns-clause-ends : goal.returns-clause-ends
returns-clause-ends g c =
    IfErr-weaker c.respond.result _ _ (λ end ends.
    one_carries_last _ _ _ _ _ c.args.event.now _ _ _ end (sym c.is_open.ensures ∙ c.if-is_open.false) c.call-reply.ensures.moved
    c.call-reply.ensures.in_kind ends)
    c.respond.ensures.ends
