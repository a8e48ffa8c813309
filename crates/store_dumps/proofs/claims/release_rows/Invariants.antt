use Rattle.std.proofs.Common.{◌≡◌, ◌≤◌, take}
use Rattle.disk_trait.specs.declared.ids.PoolId.{PoolId}
use Rattle.stored_trees.specs.Occurrences.{occurrences}
use Rattle.pool_changes.specs.Kept.{slots_of}
use Rattle.pool_changes.specs.Slots.{claims_of}
use Rattle.store_dumps.specs.Claims.{LetsGo}
use Rattle.store_dumps.proofs.claims.release_rows.Given as goal

abbrev pub invariant-loop-row : goal.invariant-loop-row
invariant-loop-row g l = record {
  go : ((id : PoolId) → occurrences id l.rows ≤ claims_of (slots_of l.initial.pool.names id))
      → LetsGo (λ id. occurrences id (take l.row-index l.rows)) (slots_of l.initial.pool.names) (slots_of l.pool.names);
  form : l.pool.in_one_file ≡ l.initial.pool.in_one_file;
}
