-- The entries of the run that change the newer tree are the reverse entries of the older one.
use Rattle.backup_delete.proofs.RunSteps.{folded_is}
use Rattle.backup_delete.proofs.runs.folded_table.Goals as goal

pub returns-then-first_filled-next-clause-table : goal.returns-then-first_filled-next-clause-table
returns-then-first_filled-next-clause-table c =
    folded_is c.args.lines.now c.args.tables.now c.args.index c.args.next c.in_ok-entries.entries c.in_ok-trimmed_at.field-0 c.requires.order
    c.rows-rows.ensures.in_order c.in_ok-entries.ensures c.in_ok-trimmed_at.ensures.kept
