-- The rows of a dump are in order, whatever its base says.
use Rattle.std.proofs.Common.{sym, ap, ◌∙◌, subst}
use Rattle.std.specs.Arc.{arc_value}
use Rattle.attr_records.specs.Paths.{path_cmp}
use Rattle.ordered_lists.specs.Order.{IsInOrder}
use Rattle.dump_session.specs.Edits.{edited}
use Rattle.dump_session.proofs.EditLaws.{IsInOrder-edited}
use Rattle.dump_session.proofs.session.Session.tree.Goals as goal

pub from_rows-requires : goal.from_rows-requires
from_rows-requires c =
    subst (IsInOrder path_cmp)
    (sym (c.in_ok-rows.ensures ∙ ap (λ base. edited base c.self.inside.removed.entries c.self.inside.puts.entries) (c.rows.ensures.rows ∙ c.deref.ensures)))
    (IsInOrder-edited (arc_value c.self.inside.base) c.self.inside.removed.entries c.self.inside.puts.entries
    c.self.invariant.base_in_order c.self.invariant.puts_in_order)
