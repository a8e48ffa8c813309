use Rattle.std.proofs.Common.{◌≡◌, ◌≤◌, drop, length}
use Rattle.disk_trait.specs.declared.ids.PoolId.{PoolId}
use Rattle.ref_counts.specs.Numbers.{number, total, capped}
use Rattle.backup_delete.specs.Folds.{taken_tables}
use Rattle.backup_delete.proofs.deletion.taken_counts.Given as goal

abbrev pub invariant-down : goal.invariant-down
invariant-down l = record {
  within : l.index ≤ length l.lines;
  told : (id : PoolId) → number l.tally id ≡ capped (total id (taken_tables l.numbers (drop l.index l.lines) (drop l.index l.tables)));
}

abbrev pub decreases-down : goal.decreases-down
decreases-down l = l.index
