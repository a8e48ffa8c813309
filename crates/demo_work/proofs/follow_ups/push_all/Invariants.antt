use Rattle.std.proofs.Common.{◌≡◌, ◌++◌, reverse, vec_len}
use Rattle.demo_work.proofs.follow_ups.push_all.Given as goal

-- what was moved, and what is still to be
abbrev pub invariant-loop-ask : goal.invariant-loop-ask
invariant-loop-ask l = l.pending.items ++ reverse l.asks.items ≡ l.initial.pending.items ++ reverse l.initial.asks.items

abbrev pub decreases-loop-ask : goal.decreases-loop-ask
decreases-loop-ask l = vec_len l.asks
