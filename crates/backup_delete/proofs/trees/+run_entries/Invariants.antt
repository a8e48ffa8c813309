use Rattle.std.proofs.Common.{◌-◌}
use Rattle.backup_delete.proofs.trees.+run_entries.Given as goal

abbrev pub decreases-run_entries : goal.decreases-run_entries
decreases-run_entries l = l.next - l.index
