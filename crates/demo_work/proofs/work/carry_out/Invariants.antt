use Rattle.demo_work.specs.Steps.{SoFar}
use Rattle.demo_work.proofs.work.carry_out.Given as goal

abbrev pub invariant-loop-turn : goal.invariant-loop-turn
invariant-loop-turn g l = SoFar g.P.Port.moves l.fn.port l.port l.fn.work l.work
