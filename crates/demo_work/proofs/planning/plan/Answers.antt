use Rattle.demo_work.proofs.PlanLaws.{plan-is}
use Rattle.demo_work.proofs.planning.plan.Goals as goal

pub returns : goal.returns
returns c =
    plan-is c.args.number _ _ _ _ _ c.new-asks.ensures.items c.in_ok-push_hosts.ensures c.in_ok-push_days.ensures c.in_ok-push.ensures.items
    c.in_ok-push_lists.ensures
