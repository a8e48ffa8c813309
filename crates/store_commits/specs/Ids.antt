-- The contents that rows name, and what the pool has of them.
--     ids_in rows      as often as they are named
--     given_in slots rows      those of them that are live or staged
use Rattle.std.specs.Prelude.{List, [], ◌∷◌, Option, Some, None, if◌then◌else◌}
use Rattle.disk_trait.specs.declared.ids.PoolId.{PoolId}
use Rattle.pool_changes.specs.Slots.{Slots, is_given}
use Rattle.merge_view.specs.Views.{Rows}
use Rattle.stored_trees.specs.Resolved.{content_in}

abbrev pub with_id : Option PoolId → List PoolId → List PoolId
with_id None ids = ids
with_id (Some id) ids = id ∷ ids

abbrev pub ids_in : Rows → List PoolId
ids_in [] = []
ids_in (row ∷ rows) = with_id (content_in row.1) (ids_in rows)

abbrev pub given_id : Slots → Option PoolId → Option PoolId
given_id slots None = None
given_id slots (Some id) = if is_given (slots id) then Some id else None

abbrev pub given_in : Slots → Rows → List PoolId
given_in slots [] = []
given_in slots (row ∷ rows) = with_id (given_id slots (content_in row.1)) (given_in slots rows)
