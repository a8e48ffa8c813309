-- One id more.
use Rattle.std.proofs.Common.{ℕ, ap, ◌∙◌, length, Option}
use Rattle.certificate_judge.specs.Judging.{bumped, ids_in}
use Rattle.certificate_judge.proofs.Numbers.{length-bumped, one_more_id}
use Rattle.certificate_judge.proofs.counting.count_ids.Goals as goal

pub loop-id-preserved : goal.loop-id-preserved
loop-id-preserved c = record {
  len = ap length c.bump.ensures ∙ length-bumped c.find_item.result c.loop-id.counters ∙ c.loop-id.invariant.len;
  counted = λ numbers rising are.
      one_more_id numbers (ids_in c.args.block.now) c.args.ids.now c.loop-id.id-index c.loop-id.counters c.bump.new.counters c.loop-id-test.true rising
      (c.loop-id.invariant.counted numbers rising are)
      (c.bump.ensures ∙ ap (λ (o : Option ℕ). bumped o c.loop-id.counters) (c.find_item.ensures.value rising));
}
