use Rattle.std.proofs.Common.{◌∷◌, [], arith}
use Rattle.demo_work.specs.declared.asks.Ask.TheVariants as Q
use Rattle.demo_work.proofs.PlanLaws.{each-begun, each-next, each-all}
use Rattle.demo_work.proofs.planning.push_hosts.Goals as goal

pub loop-host-init : goal.loop-host-init
loop-host-init c = each-begun (λ host. Q.AddHost host ∷ []) _

pub loop-host-preserved : goal.loop-host-preserved
loop-host-preserved c = each-next (λ host. Q.AddHost host ∷ []) c.loop-host.host _ _ _ c.loop-host.invariant c.in_ok-push.ensures.items

pub returns : goal.returns
returns c = each-all (λ host. Q.AddHost host ∷ []) c.loop-host.host 4 _ _ (omega arith) c.loop-host.invariant
