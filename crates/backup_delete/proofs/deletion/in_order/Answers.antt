use Rattle.std.proofs.Common.{arith}
use Rattle.backup_delete.proofs.AddedLaws.{all_in_order}
use Rattle.backup_delete.proofs.deletion.in_order.Goals as goal

pub returns : goal.returns
returns c = all_in_order c.args.tables.now _ (omega arith) c.loop-table.invariant
