use Rattle.std.proofs.Common.{length}
use Rattle.admin_cli.proofs.servers.+has_risen.Given as goal

abbrev pub decreases-has_risen : goal.decreases-has_risen
decreases-has_risen g l = length l.counts.now
