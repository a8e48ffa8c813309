use Rattle.std.proofs.Common.{◌∷◌, [], arith}
use Rattle.demo_work.specs.declared.asks.Ask.TheVariants as Q
use Rattle.demo_work.proofs.PlanLaws.{each-begun, each-next, each-all}
use Rattle.demo_work.proofs.planning.push_dirs.Goals as goal

pub loop-dir-init : goal.loop-dir-init
loop-dir-init c = each-begun (λ dir. Q.PutDir dir ∷ []) _

pub loop-dir-preserved : goal.loop-dir-preserved
loop-dir-preserved c = each-next (λ dir. Q.PutDir dir ∷ []) c.loop-dir.dir _ _ _ c.loop-dir.invariant c.in_ok-push.ensures.items

pub returns : goal.returns
returns c = each-all (λ dir. Q.PutDir dir ∷ []) c.loop-dir.dir 10 _ _ (omega arith) c.loop-dir.invariant
