use Rattle.std.proofs.Common.{◌≡◌}
use Rattle.demo_work.specs.Asks.{repeated}
use Rattle.demo_work.proofs.events.repeated.Given as goal

abbrev pub invariant-loop-time : goal.invariant-loop-time
invariant-loop-time l = l.bytes.items ≡ repeated l._time l.word
