use Rattle.demo_work.proofs.PlanLaws.{planned_dump}
use Rattle.demo_work.proofs.planning.push_dump.Goals as goal

pub returns : goal.returns
returns c =
    planned_dump c.args.day c.args.host c.args.draws.now.state _ _ _ _ _ c.in_ok-push_opening.ensures c.in_ok-push_edits.ensures
    c.in_ok-push_closing.ensures
