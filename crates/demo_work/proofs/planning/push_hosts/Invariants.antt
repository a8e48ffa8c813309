use Rattle.std.proofs.Common.{◌≡◌, ◌++◌, ◌∷◌, []}
use Rattle.demo_work.specs.declared.asks.Ask.TheVariants as Q
use Rattle.demo_work.specs.Plan.{each}
use Rattle.demo_work.proofs.planning.push_hosts.Given as goal

abbrev pub invariant-loop-host : goal.invariant-loop-host
invariant-loop-host l = l.asks.items ≡ l.initial.asks.items ++ each (λ host. Q.AddHost host ∷ []) l.host
