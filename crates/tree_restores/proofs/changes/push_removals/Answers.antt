use Rattle.std.proofs.Common.{◌≡◌, ◌∙◌, ◌++◌, [], ap, rules}
use Rattle.attr_records.specs.Paths.{path_cmp}
use Rattle.ordered_lists.specs.OrderLaws.{order_from_keys}
use Rattle.tree_frames.specs.Frames.{removal_frames}
use Rattle.tree_restores.specs.Since.{is_top_at}
use Rattle.tree_restores.proofs.SinceLaws.{tops_are, lost_told}
use Rattle.tree_restores.proofs.changes.push_removals.Goals as goal

pub returns : goal.returns
returns c =
    let none : c.loop-path.path-iterator ≡ [] = search rules in
    let order = order_from_keys path_cmp c.args.base.now.entries c.iter-path-items.ensures.ordered in
    lost_told (is_top_at c.args.base.now.entries c.args.tree.now.entries) _ _ c.loop-path.path-iterator none c.loop-path.invariant
    ∙ ap (λ rows. c.args.list.now.items ++ removal_frames rows) (tops_are c.args.base.now.entries c.args.tree.now.entries order c.in_order.ensures)
