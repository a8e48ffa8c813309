use Rattle.std.proofs.Common.{rules, sym}
use Rattle.std.proofs.lemmas.Result.{IfErr-weaker, on_ok_weaker}
use Rattle.browse_http.proofs.FileLemmas.{unopened, unopened_last, opened_carries, opened_carries_last}
use Rattle.browse_http.proofs.files.send_file.Goals as goal

pub returns-in-Some-clause-goes : goal.returns-in-Some-clause-goes
returns-in-Some-clause-goes g c =
    on_ok_weaker c.send_opened.result
    (λ goes. opened_carries _ _ _ _ _ _ c.args.event.now c.call-reply.result c.in-Some.file _ _ (sym c.in-Some.ensures) c.call-reply.ensures.moved goes)
    c.send_opened.ensures.goes

pub returns-in-Some-clause-ends : goal.returns-in-Some-clause-ends
returns-in-Some-clause-ends g c =
    IfErr-weaker c.send_opened.result _ _
    (λ end ends. opened_carries_last _ _ _ _ _ _ c.args.event.now c.call-reply.result c.in-Some.file _ _ (sym c.in-Some.ensures) c.call-reply.ensures.moved end ends)
    c.send_opened.ensures.ends

pub returns-clause-goes : goal.returns-clause-goes
returns-clause-goes g c =
    on_ok_weaker c.respond.result
    (λ said. unopened _ c.args.event.now c.requires _ _ c.call-reply.result c.call-reply.ensures.moved _ _ _ _ (search rules) c.call-reply.ensures.in_kind said)
    c.respond.ensures.goes

pub returns-clause-ends : goal.returns-clause-ends
returns-clause-ends g c =
    IfErr-weaker c.respond.result _ _ (λ end said.
    unopened_last _ c.args.event.now c.requires _ _ c.call-reply.result c.call-reply.ensures.moved _ _ _ _ end (search rules) c.call-reply.ensures.in_kind said)
    c.respond.ensures.ends
