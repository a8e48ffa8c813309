use Rattle.std.proofs.Common.{◌∙◌}
use Rattle.browse_http.proofs.TalkLemmas.{SoFar-more, Converses-ends, Converses-sent, counted_from}
use Rattle.browse_http.proofs.connection.serve_wire.Goals as goal

pub loop-index-preserved : goal.loop-index-preserved
loop-index-preserved g c = record {
  so_far = SoFar-more _ _ g.met.P.Port.joined _ _ _ _ _ _ _ _ _ _ _ _ _ c.loop-index.invariant.so_far c.in-Ok.ensures.goes;
  same = c.in-Ok.ensures.counted.stays (λ e. let no : ⊥ = cc (e) in no) ∙ c.loop-index.invariant.same;
}

pub returns-in-Err-clause-talk : goal.returns-in-Err-clause-talk
returns-in-Err-clause-talk g c =
    let talk = Converses-ends _ _ g.met.P.Port.joined _ _ _ _ _ _ _ _ _ _ _ _ _ _ c.loop-index.invariant.so_far c.in-Err.ensures.ends in
    Converses-sent _ _ _ _ _ _ _ _ _ _ _ _ _ _ talk c.sent_last.ensures.written c.sent_last.ensures.left c.sent_last.ensures.ends

pub returns-in-Err-clause-counted : goal.returns-in-Err-clause-counted
returns-in-Err-clause-counted g c =
    c.sent_last.ensures.counted _ (counted_from _ _ _ c.in-Err.end c.loop-index.invariant.same c.in-Err.ensures.counted)
