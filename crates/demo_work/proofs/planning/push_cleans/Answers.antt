use Rattle.std.proofs.Common.{arith}
use Rattle.demo_work.specs.Plan.{clean}
use Rattle.demo_work.proofs.PlanLaws.{each-begun, each-next, each-all}
use Rattle.demo_work.proofs.planning.push_cleans.Goals as goal

pub loop-bucket-init : goal.loop-bucket-init
loop-bucket-init c = each-begun (clean c.args.day) _

pub loop-bucket-preserved : goal.loop-bucket-preserved
loop-bucket-preserved c = each-next (clean c.args.day) c.loop-bucket.bucket _ _ _ c.loop-bucket.invariant c.in_ok-push_clean.ensures

pub returns : goal.returns
returns c = each-all (clean c.args.day) c.loop-bucket.bucket 16 _ _ (omega arith) c.loop-bucket.invariant
