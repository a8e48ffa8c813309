use Rattle.std.proofs.Common.{sym, ◌∙◌, subst}
use Rattle.attr_records.specs.Paths.{path_cmp}
use Rattle.ordered_lists.specs.Order.{IsInOrder}
use Rattle.dump_session.proofs.session.Session.within.Goals as goal

pub rows_within-requires-clause-base_order : goal.rows_within-requires-clause-base_order
rows_within-requires-clause-base_order c = subst (IsInOrder path_cmp) (sym (c.rows.ensures.rows ∙ c.deref.ensures)) c.self.invariant.base_in_order
