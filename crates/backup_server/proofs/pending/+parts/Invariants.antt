use Prim.Native.Nat.{◌+◌, ◌*◌}
use Rattle.backup_server.proofs.pending.+parts.Given as goal

abbrev pub decreases-settle_in_parts : goal.decreases-settle_in_parts
decreases-settle_in_parts g l = 2 * l.parts

abbrev pub decreases-others : goal.decreases-others
decreases-others g l = 2 * l.left + 1
