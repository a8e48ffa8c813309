use Rattle.std.proofs.Common.{◌≡◌, ◌++◌, map, take}
use Rattle.demo_work.specs.declared.asks.Ask.TheVariants as Q
use Rattle.demo_work.proofs.follow_ups.push_reads.Given as goal

abbrev pub invariant-loop-line : goal.invariant-loop-line
invariant-loop-line l =
    l.asks.items ≡ l.initial.asks.items ++ map (λ line. Q.OpenRead l.host line.number) (take l.line-index l.lines)
