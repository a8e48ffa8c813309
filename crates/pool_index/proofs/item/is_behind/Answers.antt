use Rattle.std.proofs.Common.{◌∙◌, ap}
use Rattle.std.specs.Ordering.{is_lt}
use Rattle.pool_index.proofs.Order.{last_tells}
use Rattle.pool_index.proofs.item.is_behind.Goals as goal

pub returns-in-Some : goal.returns-in-Some
returns-in-Some c = c.is_lt.ensures ∙ ap is_lt c.cmp.ensures ∙ last_tells c.args.items.now c.args.id c.in-Some.last.now c.in-Some.ensures.value
