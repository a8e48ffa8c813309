-- The entries of two neighbouring blocks, laid over each other, lead from the end of the farther to the start of the nearer.
use Rattle.backup_delete.proofs.TowerSteps.{joined_is}
use Rattle.backup_delete.proofs.tower.joined.Goals as goal

pub returns-clause-one : goal.returns-clause-one
returns-clause-one c = λ lines tables end order near far. record {
  ends = far.ends;
  seen = joined_is lines tables c.args.nearer.now c.args.farther.now c.in_ok-entries.entries end order c.in_ok-entries.ensures.seen near far;
}
