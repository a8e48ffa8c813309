-- One table more, and all of them.
use Rattle.std.proofs.Common.{◌∙◌}
use Rattle.certificate_judge.specs.Judging.{ids_in}
use Rattle.certificate_judge.proofs.Runs.{count_more, counted_all}
use Rattle.certificate_judge.proofs.counting.count_tables.Goals as goal

pub loop-i-preserved : goal.loop-i-preserved
loop-i-preserved c = record {
  len = c.count_next.ensures.len ∙ c.loop-i.invariant.len;
  counted = λ numbers ts are fits rising old.
      count_more numbers ts (ids_in c.args.block.now) _ c.loop-i.counters c.loop-i._i c.args.tables.now.count _ c.count_next.new.counters c.loop-i-test.true
      (c.loop-i.invariant.counted numbers ts are fits rising old) (λ now t rest fit e now_are. c.count_next.ensures.counted now t rest fit e rising now_are);
}

pub returns-clause-counted : goal.returns-clause-counted
returns-clause-counted c = λ numbers ts are fits rising old.
    counted_all numbers ts (ids_in c.args.block.now) _ c.loop-i.counters c.loop-i._i c.args.tables.now.count c.loop-i-test.false
    (c.loop-i.invariant.counted numbers ts are fits rising old)
