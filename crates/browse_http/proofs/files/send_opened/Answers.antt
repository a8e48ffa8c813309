use Rattle.std.proofs.Common.{rules, sym}
use Rattle.std.proofs.lemmas.Result.{IfErr-weaker, on_ok_weaker}
use Rattle.browse_http.proofs.FileLemmas.{opened_goes, opened_ended, opened_ends, opened_refused, opened_refused_last}
use Rattle.browse_http.proofs.files.send_opened.Goals as goal

pub returns-in-Err-clause-ends : goal.returns-in-Err-clause-ends
returns-in-Err-clause-ends g c =
    opened_ends _ g.met.P.Port.joined c.args.event.now c.requires c.args.file.reader c.args.file.size _ _ c.call-reply.result c.call-reply.ensures.moved _ _ _
    c.args.closes c.args.is_head c.in-Some.first.now c.in-Err.end (sym c.in-Some.ensures) c.in-Err.ensures.sends

pub returns-then-closes-clause-ends : goal.returns-then-closes-clause-ends
returns-then-closes-clause-ends g c =
    opened_ended _ g.met.P.Port.joined c.args.event.now c.requires c.args.file.reader c.args.file.size _ _ c.call-reply.result c.call-reply.ensures.moved _ _ _
    c.args.closes c.args.is_head c.in-Some.first.now (sym c.in-Some.ensures) c.in-Ok.ensures.sends c.if-closes.true

pub returns-in-Some-clause-goes : goal.returns-in-Some-clause-goes
returns-in-Some-clause-goes g c =
    opened_goes _ g.met.P.Port.joined c.args.event.now c.requires c.args.file.reader c.args.file.size _ _ c.call-reply.result c.call-reply.ensures.moved _ _ _
    c.args.closes c.args.is_head c.in-Some.first.now (sym c.in-Some.ensures) c.in-Ok.ensures.sends c.if-closes.false

pub returns-clause-goes : goal.returns-clause-goes
returns-clause-goes g c =
    on_ok_weaker c.respond.result (λ said.
    opened_refused _ g.met.P.Port.joined c.args.event.now c.requires c.args.file.reader c.args.file.size _ _ c.call-reply.result c.call-reply.ensures.moved _ _ _
    c.args.closes c.args.is_head c.close_file.ensures.0 (search rules) c.call-reply.ensures.in_kind c.close_file.ensures.1 said)
    c.respond.ensures.goes

pub returns-clause-ends : goal.returns-clause-ends
returns-clause-ends g c =
    IfErr-weaker c.respond.result _ _ (λ end said.
    opened_refused_last _ g.met.P.Port.joined c.args.event.now c.requires c.args.file.reader c.args.file.size _ _ c.call-reply.result c.call-reply.ensures.moved _ _ _
    c.args.closes c.args.is_head c.close_file.ensures.0 end (search rules) c.call-reply.ensures.in_kind c.close_file.ensures.1 said)
    c.respond.ensures.ends
