-- Without edits the tree is the base.
use Rattle.std.proofs.Common.{◌∙◌, ap, length, subst}
use Rattle.std.specs.Arc.{arc_value}
use Rattle.attr_records.specs.Paths.{path_cmp}
use Rattle.ordered_lists.specs.Order.{IsInOrder}
use Rattle.dump_session.specs.Edits.{edited}
use Rattle.dump_session.proofs.EditLaws.{edited-none}
use Rattle.dump_session.proofs.Sessions.{begun}
use Rattle.dump_session.proofs.session.Session.begin_incr.Goals as goal

pub invariant_of-result : goal.invariant_of-result
invariant_of-result c =
    begun (arc_value c.args.base) c.new.result.entries c.new-2.result.entries (length c.rows-count.result.now) c.new.ensures.empty c.new-2.ensures.empty
    (subst (IsInOrder path_cmp) c.deref.ensures c.rows-count.ensures.in_order) (ap length (c.rows-count.ensures.rows ∙ c.deref.ensures))

pub returns : goal.returns
returns c =
    ap (edited (arc_value c.args.base) c.new.result.entries) c.new-2.ensures.empty
    ∙ edited-none (arc_value c.args.base) c.new.result.entries c.new.ensures.empty (subst (IsInOrder path_cmp) c.deref.ensures c.rows-count.ensures.in_order)
