use Rattle.std.proofs.Common.{◌≡◌, rules}
use Rattle.wake_schedule.specs.Zones.{ahead_at}
use Rattle.wake_schedule.proofs.zone.Zone.local.Goals as goal

pub returns : goal.returns
unfolding ahead_at
returns c = search rules
