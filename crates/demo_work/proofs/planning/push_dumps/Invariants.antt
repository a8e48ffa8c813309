use Rattle.demo_work.specs.Plan.{each_drawn, dump}
use Rattle.demo_work.specs.Steps.{Planned}
use Rattle.demo_work.proofs.planning.push_dumps.Given as goal

abbrev pub invariant-loop-host : goal.invariant-loop-host
invariant-loop-host l = Planned l.fn.asks.items l.asks.items l.draws.state (each_drawn (dump l.day) l.host l.fn.draws.state)
