use Rattle.std.proofs.Common.{◌*◌, ◌≤◌, ◌∙◌, arith}
use Rattle.keep_rules.proofs.SpanLaws.{span_small, span_next, count_at, product_small, total_small, reach_more}
use Rattle.keep_rules.proofs.gaps.reach.Goals as goal

pub overflow_mul-total : goal.overflow_mul-total
overflow_mul-total c =
    let few : c.from.result ≤ 1000 = count_at c.args.counts.now c.loop-count.count-index c.from.result c.requires.counts.each c.loop-count-test.true c.from.ensures in
    let small : c.loop-count.span ≤ 65536 * c.args.cycle =
    span_small c.loop-count.count-index c.args.cycle c.loop-count.span (omega (arith, c.loop-count-test.true, c.requires.counts.few)) c.loop-count.invariant.span in
    omega (arith, product_small c.from.result c.loop-count.span few (omega (arith, small, c.requires.small)))

pub overflow_add-total : goal.overflow_add-total
overflow_add-total c =
    let few : c.from.result ≤ 1000 = count_at c.args.counts.now c.loop-count.count-index c.from.result c.requires.counts.each c.loop-count-test.true c.from.ensures in
    let small : c.loop-count.span ≤ 65536 * c.args.cycle =
    span_small c.loop-count.count-index c.args.cycle c.loop-count.span (omega (arith, c.loop-count-test.true, c.requires.counts.few)) c.loop-count.invariant.span in
    omega (arith, c.requires.small, small, total_small c.loop-count.total c.args.cycle c.loop-count.span c.from.result c.loop-count.invariant.small few)

pub loop-count-preserved : goal.loop-count-preserved
loop-count-preserved c =
    let few : c.from.result ≤ 1000 = count_at c.args.counts.now c.loop-count.count-index c.from.result c.requires.counts.each c.loop-count-test.true c.from.ensures in
    record {
      rest = c.loop-count.invariant.rest
          ∙ reach_more c.loop-count.total c.loop-count.span c.args.counts.now c.loop-count.count-index c.from.result c.loop-count-test.true c.from.ensures;
      span = span_next c.loop-count.count-index c.args.cycle c.loop-count.span c.loop-count.invariant.span;
      small = total_small c.loop-count.total c.args.cycle c.loop-count.span c.from.result c.loop-count.invariant.small few;
    }
