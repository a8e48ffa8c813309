use Rattle.pool_changes.specs.Kept.{slots_of}
use Rattle.pool_changes.specs.RelistedLaws.{turn_next}
use Rattle.pool_changes.specs.Writing.{layered}
use Rattle.pool_changes.specs.StepLaws.{first_of}
use Rattle.pool_changes.proofs.writing.turn_all_over.Goals as goal

pub loop-id-preserved : goal.loop-id-preserved
loop-id-preserved c = record {
  turned = turn_next c.args.turn _ (layered (slots_of c.args.names.now) (slots_of c.loop-id.over)) (layered (slots_of c.args.names.now) (slots_of c.turn_over.new.over)) _ _ _
      (first_of c.args.ids.now c.loop-id.id-index _ c.loop-id-test.true) c.loop-id.invariant.turned c.in-Ok.ensures.turned;
  over = λ lies. c.in-Ok.ensures.over (c.loop-id.invariant.over lies);
}
