use Rattle.std.proofs.Common.{length}
use Rattle.disk_trait.proofs.Imaging.{kept_older}
use Rattle.disk_trait.proofs.image.image_log.Goals as goal

pub as_written-requires-clause-older : goal.as_written-requires-clause-older
as_written-requires-clause-older c = kept_older (length c.args.log.now.bytes.items) c.args.moment c.args.log.now.past.items _ _ c.split_at.ensures.front c.as_slice.ensures.value c.requires.whole.past_kept

pub overridden-requires-clause-older : goal.overridden-requires-clause-older
overridden-requires-clause-older c = kept_older (length c.args.log.now.bytes.items) c.args.moment c.args.log.now.past.items _ _ c.split_at.ensures.front c.as_slice.ensures.value c.requires.whole.past_kept

pub overridden-requires-in-One-clause-older : goal.overridden-requires-in-One-clause-older
overridden-requires-in-One-clause-older c = kept_older (length c.args.log.now.bytes.items) c.args.moment c.args.log.now.past.items _ _ c.split_at.ensures.front c.as_slice.ensures.value c.requires.whole.past_kept
