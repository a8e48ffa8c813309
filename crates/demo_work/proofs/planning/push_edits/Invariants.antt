use Rattle.demo_work.specs.Plan.{drawn, each_drawn, edit}
use Rattle.demo_work.specs.Steps.{Planned}
use Rattle.demo_work.proofs.planning.push_edits.Given as goal

abbrev pub invariant-loop-edit : goal.invariant-loop-edit
invariant-loop-edit l = Planned l.fn.asks.items l.asks.items l.draws.state (each_drawn (λ _ at. edit at) l._edit (drawn l.fn.draws.state))
