use Rattle.demo_work.specs.Plan.{each_drawn, day_of}
use Rattle.demo_work.specs.Steps.{Planned}
use Rattle.demo_work.proofs.planning.push_days.Given as goal

abbrev pub invariant-loop-day : goal.invariant-loop-day
invariant-loop-day l = Planned l.fn.asks.items l.asks.items l.draws.state (each_drawn day_of l.day l.fn.number)
