-- The entries that pass the test are those that change the tree, since both are in order.
use Rattle.std.proofs.Common.{◌≤◌, length, drop, sym, ◌∙◌, subst}
use Rattle.ordered_lists.specs.Order.{IsInOrder}
use Rattle.attr_records.specs.Paths.{path_cmp}
use Rattle.attr_records.specs.Trees.{node_at}
use Rattle.merge_view.specs.Views.{Rows}
use Rattle.merge_view.specs.ViewLaws.{IsInOrder-trimmed}
use Rattle.backup_delete.specs.Trees.{tree_of}
use Rattle.backup_delete.specs.Lookups.{is_needed}
use Rattle.backup_delete.proofs.LookupLaws.{trimmed_is, all_told}
use Rattle.backup_delete.proofs.RunSteps.{from_order}
use Rattle.backup_delete.proofs.runs.trimmed_in.Goals as goal

pub from_rows-requires : goal.from_rows-requires
from_rows-requires c =
    let start = c.args.tower.now.start in
    let tree = tree_of (drop start c.args.lines.now) (drop start c.args.tables.now) in
    let order = from_order c.args.lines.now c.args.tables.now start c.requires.order in
    subst (λ (rows : Rows). IsInOrder path_cmp rows)
    (trimmed_is tree c.args.entries.now order c.rows-row-items.ensures.in_order
    ∙ sym (all_told (λ row. is_needed row.1 (node_at tree row.0)) c.args.entries.now c.loop-row.rows.items c.loop-row.row-index
    (subst (λ (rows : Rows). length rows ≤ c.loop-row.row-index) c.rows-row-items.ensures.rows c.loop-row-test.false) c.loop-row.invariant))
    (IsInOrder-trimmed tree c.args.entries.now order c.rows-row-items.ensures.in_order)

pub returns : goal.returns
returns c =
    let start = c.args.tower.now.start in
    let tree = tree_of (drop start c.args.lines.now) (drop start c.args.tables.now) in
    let order = from_order c.args.lines.now c.args.tables.now start c.requires.order in
    c.from_rows.ensures
    ∙ all_told (λ row. is_needed row.1 (node_at tree row.0)) c.args.entries.now c.loop-row.rows.items c.loop-row.row-index
    (subst (λ (rows : Rows). length rows ≤ c.loop-row.row-index) c.rows-row-items.ensures.rows c.loop-row-test.false) c.loop-row.invariant
    ∙ sym (trimmed_is tree c.args.entries.now order c.rows-row-items.ensures.in_order)
