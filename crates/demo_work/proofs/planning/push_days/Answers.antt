use Rattle.std.proofs.Common.{refl, arith}
use Rattle.demo_work.specs.Plan.{day_of}
use Rattle.demo_work.proofs.PlanLaws.{Planned-begun, Planned-next, days-are}
use Rattle.demo_work.proofs.planning.push_days.Goals as goal

pub loop-day-init : goal.loop-day-init
loop-day-init c = Planned-begun day_of _ _ _ refl

pub loop-day-preserved : goal.loop-day-preserved
loop-day-preserved c = Planned-next day_of c.loop-day.day _ _ _ _ _ _ c.loop-day.invariant c.in_ok-push_day.ensures

pub returns : goal.returns
returns c = days-are c.loop-day.day _ _ _ _ (omega arith) c.loop-day.invariant
