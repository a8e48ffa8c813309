-- One id more.
use Rattle.std.proofs.Common.{[], arith}
use Rattle.certificate_judge.specs.Judging.{is_unknown_in}
use Rattle.certificate_judge.proofs.Wrongs.{noted_more}
use Rattle.certificate_judge.proofs.noting.note_ids.Goals as goal

pub loop-id-preserved : goal.loop-id-preserved
loop-id-preserved c = record {
  placed = λ below. let here = c.loop-id.invariant.placed below in omega (arith, here, below, c.loop-id-test.true, c.saturating_add-here.ensures);
  noted = λ offsets known below before.
      noted_more (is_unknown_in c.args.known.now) 18 offsets c.args.at c.loop-id.id-index c.loop-id.here c.args.ids.now [] c.is_unknown.result c.loop-id.now c.and_if-now.result
      c.loop-id-test.true (λ os is. c.and_if-now.ensures os is) (c.is_unknown.ensures known) (c.loop-id.invariant.placed below)
      (c.loop-id.invariant.noted offsets known below before);
}
