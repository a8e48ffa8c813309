-- The ids of a map strictly rise.
use Rattle.ordered_lists.specs.OrderLaws.{order_from_keys}
use Rattle.pool_index.specs.Items.{id_cmp}
use Rattle.ref_counts.proofs.tally.listed.Goals as goal

pub returns-clause-in_order : goal.returns-clause-in_order
returns-clause-in_order c = order_from_keys id_cmp c.args.numbers.now.entries c.iter-id-items.ensures.ordered
