use Rattle.std.proofs.Common.{sym, ap, ◌∙◌, subst}
use Rattle.attr_records.specs.Paths.{path_cmp}
use Rattle.ordered_lists.specs.Order.{IsInOrder}
use Rattle.merge_view.specs.Runs.{within_rows}
use Rattle.merge_view.specs.RunLaws.{IsInOrder-within_rows}
use Rattle.merge_view.specs.Views.{Rows, view}
use Rattle.dump_session.specs.Edits.{outside}
use Rattle.dump_session.proofs.SubtreeLaws.{left_in_order, rows_of_path}
use Rattle.dump_session.proofs.subtree.rows_within.Goals as goal

pub from_rows-tree-requires : goal.from_rows-tree-requires
from_rows-tree-requires c =
    left_in_order c.args.removed.now.entries c.args.base.now c.in_ok-left.left.items c.args.path.now c.requires.base_order
    (c.in_ok-left.ensures ∙ ap (λ (rows : Rows). outside rows c.args.removed.now.entries) (c.within.ensures ∙ ap (λ p. within_rows p c.args.base.now) c.as_slice.ensures.value))

pub from_rows-entries-requires : goal.from_rows-entries-requires
from_rows-entries-requires c =
    subst (IsInOrder path_cmp) (sym c.in_ok-found.ensures) (IsInOrder-within_rows c.args.path.now c.args.puts.now.entries c.requires.puts_order)

pub returns : goal.returns
returns c =
    rows_of_path c.args.removed.now.entries c.args.base.now c.args.puts.now.entries c.in_ok-left.left.items c.in_ok-found.found.items c.in_ok-rows.rows c.args.path.now c.requires.base_order c.requires.puts_order
    (c.in_ok-left.ensures ∙ ap (λ (rows : Rows). outside rows c.args.removed.now.entries) (c.within.ensures ∙ ap (λ p. within_rows p c.args.base.now) c.as_slice.ensures.value))
    c.in_ok-found.ensures
    (c.in_ok-rows.ensures.value ∙ (λ i. view ((c.from_rows-tree.ensures) i) ((c.from_rows-entries.ensures) i)))
