-- The entries that pass the test are those of the merge, since both lists are in order.
use Rattle.std.proofs.Common.{sym, ◌∙◌}
use Rattle.attr_records.specs.Trees.{node_at}
use Rattle.backup_delete.specs.Lookups.{is_alone}
use Rattle.backup_delete.proofs.LookupLaws.{remaining_is, all_told}
use Rattle.backup_delete.proofs.lookups.remaining_by_lookup.Goals as goal

pub returns : goal.returns
returns c =
    all_told (λ row. is_alone row.1 (node_at c.args.table.now row.0)) c.args.entries.now c.loop-row.rows.items c.loop-row.row-index c.loop-row-test.false c.loop-row.invariant
    ∙ sym (remaining_is c.args.entries.now c.args.table.now c.requires.entries c.requires.table)
