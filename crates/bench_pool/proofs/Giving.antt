-- A list of given names with one more.
use Rattle.std.proofs.Common.{◌≡◌, true, List, [], ◌∷◌, ◌++◌}
use Rattle.disk_trait.specs.declared.ids.PoolId.{PoolId}
use Rattle.pool_changes.specs.Slots.{Slots, is_given}
use Rattle.pool_changes.specs.Indexed.{AreGiven}

pub given_more : (slots : Slots) (ids : List PoolId) (id : PoolId) → AreGiven slots ids → is_given (slots id) ≡ true → AreGiven slots (ids ++ id ∷ [])
given_more slots [] id are given = (given, tt)
given_more slots (first ∷ ids) id are given = (are.0, given_more slots ids id are.1 given)
