use Rattle.std.proofs.Common.{◌≡◌, [], arith, rules}
use Rattle.attr_records.specs.Paths.{path_cmp}
use Rattle.ordered_lists.specs.OrderLaws.{order_from_keys}
use Rattle.tree_restores.specs.Since.{is_changed_at}
use Rattle.tree_restores.proofs.SinceLaws.{told_are, few_pass, changes_told}
use Rattle.tree_restores.proofs.changes.push_changes.Goals as goal

pub overflow_add-count : goal.overflow_add-count
overflow_add-count c =
    let few = few_pass (is_changed_at c.args.base.now.entries c.args.tree.now.entries) c.args.tree.now.entries in
    let told = c.loop-path.invariant.1 in
    let most = c.requires in
    omega (arith, few, told, most)

pub returns : goal.returns
returns c =
    let none : c.loop-path.path-iterator ≡ [] = search rules in
    let order = order_from_keys path_cmp c.args.tree.now.entries c.iter-path-items.ensures.ordered in
    changes_told (is_changed_at c.args.base.now.entries c.args.tree.now.entries) _ _ _ c.loop-path.path-iterator _ _ c.loop-path.count none
    c.loop-path.invariant.0 c.loop-path.invariant.1 (told_are c.args.base.now.entries c.args.tree.now.entries c.in_order.ensures order) c.in_ok-push.ensures.items
