use Rattle.std.proofs.Common.{refl}
use Rattle.pool_changes.proofs.Changing.{next_file}
use Rattle.pool_changes.proofs.writing.next_bucket.Goals as goal

pub returns-in-Ok : goal.returns-in-Ok
returns-in-Ok c = next_file _ _ c.args.byte _ c.in-Ok.bytes refl c.in-Ok.ensures (c.if-not-is_changed.ensures.changed refl)
