use Rattle.std.proofs.Common.{length}
use Rattle.backup_delete.proofs.tower.+node_in.Given as goal

abbrev pub decreases-node_in : goal.decreases-node_in
decreases-node_in l = length l.blocks.now
