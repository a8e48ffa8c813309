use Rattle.std.proofs.Common.{◌≡◌, ◌++◌}
use Rattle.demo_work.specs.Plan.{each, clean}
use Rattle.demo_work.proofs.planning.push_cleans.Given as goal

abbrev pub invariant-loop-bucket : goal.invariant-loop-bucket
invariant-loop-bucket l = l.asks.items ≡ l.initial.asks.items ++ each (clean l.day) l.bucket
