-- The names so far, and those of the rows that are left.
use Rattle.std.proofs.Common.{◌≡◌, ◌++◌, drop}
use Rattle.pool_changes.specs.Kept.{slots_of}
use Rattle.store_commits.specs.Ids.{given_in}
use Rattle.store_commits.proofs.ids.ids_of.Given as goal

abbrev pub invariant-loop-row : goal.invariant-loop-row
invariant-loop-row g l = l.ids.items ++ given_in (slots_of l.pool.names) (drop l.row-index l.rows) ≡ given_in (slots_of l.pool.names) l.rows
