use Rattle.std.proofs.Common.{length}
use Rattle.disk_trait.proofs.Records.{kept_at, replayed}
use Rattle.disk_trait.proofs.log.replay.Goals as goal

pub apply-requires : goal.apply-requires
apply-requires c = kept_at (length c.args.bytes.now) c.loop-entry.entry-index c.args.entries.now _ c.requires c.loop-entry-test.true

pub loop-entry-preserved : goal.loop-entry-preserved
loop-entry-preserved c =
    replayed c.args.bytes.now c.args.entries.now c.loop-entry.entry-index _ _ _ _ c.loop-entry-test.true c.loop-entry.invariant c.in-Ok.ensures
