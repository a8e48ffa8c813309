use Rattle.std.proofs.Common.{refl, arith}
use Rattle.demo_work.specs.Plan.{dump}
use Rattle.demo_work.proofs.PlanLaws.{Planned-begun, Planned-next, Planned-all}
use Rattle.demo_work.proofs.planning.push_dumps.Goals as goal

pub loop-host-init : goal.loop-host-init
loop-host-init c = Planned-begun (dump c.args.day) _ _ _ refl

pub loop-host-preserved : goal.loop-host-preserved
loop-host-preserved c = Planned-next (dump c.args.day) c.loop-host.host _ _ _ _ _ _ c.loop-host.invariant c.in_ok-push_dump.ensures

pub returns : goal.returns
returns c = Planned-all (dump c.args.day) c.loop-host.host 4 _ _ _ _ (omega arith) c.loop-host.invariant
