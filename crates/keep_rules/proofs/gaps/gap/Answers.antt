use Rattle.std.proofs.Common.{◌∙◌}
use Rattle.keep_rules.proofs.GapLaws.{gap_more}
use Rattle.keep_rules.proofs.SpanLaws.{span_next}
use Rattle.keep_rules.proofs.gaps.gap.Goals as goal

pub loop-count-preserved : goal.loop-count-preserved
loop-count-preserved c = record {
  rest = c.loop-count.invariant.rest
      ∙ gap_more _ c.loop-count.span c.args.counts.now c.loop-count.count-index c.from-count.result c.loop-count.left c.loop-count-test.true c.from-count.ensures c.if-left-count.false;
  span = span_next c.loop-count.count-index c.args.cycle c.loop-count.span c.loop-count.invariant.span;
}
