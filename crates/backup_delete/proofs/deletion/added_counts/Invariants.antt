use Rattle.std.proofs.Common.{◌≡◌, take}
use Rattle.disk_trait.specs.declared.ids.PoolId.{PoolId}
use Rattle.ref_counts.specs.Numbers.{number, total, capped}
use Rattle.backup_delete.specs.Folds.{added_tables}
use Rattle.backup_delete.proofs.deletion.added_counts.Given as goal

abbrev pub invariant-loop-change : goal.invariant-loop-change
invariant-loop-change l = (id : PoolId) → number l.tally id ≡ capped (total id (added_tables (take l.change-index l.all)))
