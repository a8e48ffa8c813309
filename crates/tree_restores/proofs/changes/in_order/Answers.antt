use Rattle.attr_records.specs.Paths.{path_cmp}
use Rattle.ordered_lists.specs.OrderLaws.{order_from_keys}
use Rattle.tree_restores.proofs.changes.in_order.Goals as goal

pub returns : goal.returns
returns c = order_from_keys path_cmp c.args.tree.now.entries c.len-paths.ensures.ordered
