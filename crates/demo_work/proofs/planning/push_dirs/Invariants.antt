use Rattle.std.proofs.Common.{◌≡◌, ◌++◌, ◌∷◌, []}
use Rattle.demo_work.specs.declared.asks.Ask.TheVariants as Q
use Rattle.demo_work.specs.Plan.{each}
use Rattle.demo_work.proofs.planning.push_dirs.Given as goal

abbrev pub invariant-loop-dir : goal.invariant-loop-dir
invariant-loop-dir l = l.asks.items ≡ l.initial.asks.items ++ each (λ dir. Q.PutDir dir ∷ []) l.dir
