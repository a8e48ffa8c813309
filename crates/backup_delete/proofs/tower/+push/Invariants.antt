use Rattle.std.proofs.Common.{vec_len}
use Rattle.backup_delete.proofs.tower.+push.Given as goal

abbrev pub decreases-push : goal.decreases-push
decreases-push l = vec_len l.blocks.now
