-- The entries that pass the test are those of the merge, since both lists are in order.
use Rattle.std.proofs.Common.{sym, ◌∙◌}
use Rattle.attr_records.specs.Trees.{node_at}
use Rattle.backup_delete.specs.Lookups.{is_needed}
use Rattle.backup_delete.proofs.LookupLaws.{trimmed_is, one_more, all_told}
use Rattle.backup_delete.proofs.lookups.trimmed_by_lookup.Goals as goal

pub loop-row-preserved : goal.loop-row-preserved
loop-row-preserved c =
    one_more (λ row. is_needed row.1 (node_at c.args.tree.now row.0)) c.args.entries.now c.loop-row.rows.items _ c.loop-row.row-index c.row-item.result
    c.loop-row-test.true c.row-item.is c.loop-row.invariant c.in_ok-push_needed.ensures

pub returns : goal.returns
returns c =
    all_told (λ row. is_needed row.1 (node_at c.args.tree.now row.0)) c.args.entries.now c.loop-row.rows.items c.loop-row.row-index c.loop-row-test.false c.loop-row.invariant
    ∙ sym (trimmed_is c.args.tree.now c.args.entries.now c.requires.tree c.requires.entries)
