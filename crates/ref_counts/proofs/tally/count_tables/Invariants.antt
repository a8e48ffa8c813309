use Rattle.std.proofs.Common.{◌≡◌, take}
use Rattle.disk_trait.specs.declared.ids.PoolId.{PoolId}
use Rattle.ref_counts.specs.Numbers.{number, total, capped}
use Rattle.ref_counts.proofs.tally.count_tables.Given as goal

abbrev pub invariant-loop-table : goal.invariant-loop-table
invariant-loop-table l = (id : PoolId) → number l.tally id ≡ capped (total id (take l.table-index l.tables))
