use Rattle.std.proofs.Common.{◌≡◌, ◌≤◌, ◌<◌, ◌+◌, true, take}
use Rattle.disk_trait.specs.declared.ids.PoolId.{PoolId}
use Rattle.stored_trees.specs.Occurrences.{occurrences}
use Rattle.pool_changes.specs.Kept.{slots_of}
use Rattle.pool_changes.specs.Slots.{is_given}
use Rattle.store_dumps.specs.Claims.{Gains}
use Rattle.store_dumps.proofs.claims.claim_rows.Given as goal

abbrev pub invariant-loop-row : goal.invariant-loop-row
invariant-loop-row g l = record {
  gains : ((id : PoolId) → 0 < occurrences id l.rows → is_given (slots_of l.initial.pool.names id) ≡ true)
      → Gains (λ id. occurrences id (take l.row-index l.rows)) (slots_of l.initial.pool.names) (slots_of l.pool.names);
  spare : l.initial.pool.spare ≤ l.pool.spare + l.row-index;
  form : l.pool.in_one_file ≡ l.initial.pool.in_one_file;
}
