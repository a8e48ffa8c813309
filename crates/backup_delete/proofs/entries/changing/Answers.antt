use Rattle.std.proofs.Common.{sym, ◌∙◌, subst}
use Rattle.attr_records.specs.Paths.{path_cmp}
use Rattle.ordered_lists.specs.Order.{IsInOrder}
use Rattle.merge_view.specs.Views.{Rows, trimmed}
use Rattle.merge_view.specs.ViewLaws.{IsInOrder-trimmed}
use Rattle.backup_delete.proofs.entries.changing.Goals as goal

pub from_rows-requires : goal.from_rows-requires
from_rows-requires c =
    subst (λ (rows : Rows). IsInOrder path_cmp rows)
    (sym (c.in_ok-rows.ensures ∙ (λ i. trimmed (c.rows-then-are_few.ensures.rows i) (c.rows-then-are_few-2.ensures.rows i))))
    (IsInOrder-trimmed c.args.tree.now c.args.entries.now c.rows-2.ensures.in_order c.rows.ensures.in_order)
