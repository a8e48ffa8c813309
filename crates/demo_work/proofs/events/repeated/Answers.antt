use Rattle.std.proofs.Common.{arith}
use Rattle.demo_work.proofs.PlanLaws.{repeated-begun, repeated-next, repeated-all}
use Rattle.demo_work.proofs.events.repeated.Goals as goal

pub loop-time-init : goal.loop-time-init
loop-time-init c = repeated-begun _ _ c.new-bytes.ensures.items

pub loop-time-preserved : goal.loop-time-preserved
loop-time-preserved c = repeated-next c.loop-time._time _ _ _ c.loop-time.invariant c.in_ok-extend_from_slice.ensures.items

pub returns : goal.returns
returns c = repeated-all c.loop-time._time _ _ _ _ (omega arith) c.loop-time.invariant c.from_vec.ensures
