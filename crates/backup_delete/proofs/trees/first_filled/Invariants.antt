use Rattle.std.proofs.Common.{◌≤◌, ◌-◌}
use Rattle.backup_delete.specs.Trees.{AreUnfilled}
use Rattle.backup_delete.proofs.trees.first_filled.Given as goal

abbrev pub invariant-up : goal.invariant-up
invariant-up l = record {
  after : l.index ≤ l.i;
  within : l.i ≤ l.at;
  unfilled : AreUnfilled l.lines l.index l.i;
}

abbrev pub decreases-up : goal.decreases-up
decreases-up l = l.at - l.i
