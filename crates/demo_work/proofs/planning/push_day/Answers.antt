use Rattle.demo_work.proofs.PlanLaws.{planned_day}
use Rattle.demo_work.proofs.planning.push_day.Goals as goal

pub returns : goal.returns
returns c = planned_day c.args.day c.args.draws.now.state _ _ _ _ c.in_ok-push_dumps.ensures c.in_ok-push_upkeep.ensures
