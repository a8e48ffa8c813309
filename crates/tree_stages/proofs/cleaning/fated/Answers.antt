use Rattle.std.proofs.Common.{◌∙◌}
use Rattle.office_model.specs.events.Clean.{is_protected, in_bucket}
use Rattle.tree_stages.proofs.CleanLaws.{count_starts}
use Rattle.tree_stages.proofs.cleaning.fated.Goals as goal

pub loop-content-init : goal.loop-content-init
loop-content-init g c = count_starts (in_bucket g.N.Namer.digest_of c.args.bucket) (is_protected c.args.hosts.now c.args.dumps.now c.args.restores.now c.args.readers.now) c.args.wanted _ _
    (c.into_iter-content-iterator.ensures.into_iter_gives ∙ c.iter-content-items.ensures.rest) c.iter-content-items.ensures.fits
