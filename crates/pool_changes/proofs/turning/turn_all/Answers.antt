use Rattle.pool_changes.specs.Kept.{slots_of}
use Rattle.pool_changes.specs.RelistedLaws.{turn_next}
use Rattle.pool_changes.specs.StepLaws.{first_of}
use Rattle.pool_changes.proofs.turning.turn_all.Goals as goal

pub loop-id-preserved : goal.loop-id-preserved
loop-id-preserved c = turn_next c.args.turn _ (slots_of c.loop-id.names) (slots_of c.turn_one.new.names) _ _ _ (first_of c.args.ids.now c.loop-id.id-index _ c.loop-id-test.true) c.loop-id.invariant c.turn_one.ensures
