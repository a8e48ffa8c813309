-- A path that may come next leaves a tree.
use Rattle.std.proofs.Common.{sym, ap, ◌∙◌}
use Rattle.restore_stream.specs.Trees.{may_follow}
use Rattle.restore_stream.proofs.TreeLaws.{pushed}
use Rattle.restore_stream.proofs.made.MadeList.push.Goals as goal

pub invariant_of-self-2 : goal.invariant_of-self-2
invariant_of-self-2 c = pushed _ _ _ c.args.made _ c.self.invariant c.path.ensures.range c.reserve.ensures.items c.in-Ok.ensures.items
    (c.as_slice.ensures.value ∙ c.path.ensures.value)
    (ap (λ t. may_follow t c.as_slice.result.now) c.self.view_is ∙ sym c.if-not-may_follow.ensures)
