use Rattle.std.proofs.Common.{◌∙◌, rules}
use Rattle.stream_traits.proofs.ToldLemmas.{behind-take_more}
use Rattle.stream_traits.proofs.writing.write_all.Goals as goal

pub loop-done-preserved : goal.loop-done-preserved
loop-done-preserved g c =
    let before = c.loop-done.invariant in
    record {
      in_range = search rules;
      wrote = c.in-Ok.ensures.wrote ∙ behind-take_more _ _ c.args.bytes.now c.loop-done.done c.in-Ok.count before.wrote;
      left = c.write.ensures.left ∙ before.left;
      sent = c.write.ensures.sent ∙ before.sent;
      same = search rules;
    }
