use Rattle.std.proofs.Common.{◌∙◌}
use Rattle.office_model.specs.events.Clean.{is_protected, in_bucket}
use Rattle.tree_stages.proofs.CleanLaws.{clean_starts}
use Rattle.tree_stages.proofs.cleaning.cleaned.Goals as goal

pub loop-content-init : goal.loop-content-init
loop-content-init g c = clean_starts (in_bucket g.N.Namer.digest_of c.args.bucket) (is_protected c.args.hosts.now c.args.dumps.now c.args.restores.now c.args.readers.now) _ _ _
    c.new-new.ensures.empty (c.into_iter-content-iterator.ensures.into_iter_gives ∙ c.iter-content-items.ensures.rest) c.iter-content-items.ensures.ordered
