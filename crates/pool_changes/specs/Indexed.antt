-- What a change of the index makes of the names.
use Rattle.std.specs.Prelude.{◌≡◌, true, List, [], ◌∷◌}
use Rattle.disk_trait.specs.declared.ids.PoolId.{PoolId}
use Rattle.pool_changes.specs.declared.index.IndexChange.{IndexChange}
use Rattle.pool_changes.specs.declared.slot.Turn.TheVariants.{Add, Mark, Unmark, Remove}
use Rattle.pool_changes.specs.Slots.{Slots, is_given, is_live, claims_of}
use Rattle.pool_changes.specs.Relisted.{relisted}

-- the names after these were added, marked, unmarked and removed
abbrev pub relisted_by : (added marked unmarked removed : List PoolId) → Slots → Slots
relisted_by added marked unmarked removed slots =
    relisted Remove removed (relisted Unmark unmarked (relisted Mark marked (relisted Add added slots)))

abbrev pub after : IndexChange → Slots → Slots
after change slots = relisted_by change.added.items change.marked.items change.unmarked.items change.removed.items slots

-- the names that a change adds, marks, unmarks and removes
pub record IsOf (change : IndexChange) (added marked unmarked removed : List PoolId) : Type 0 where
  pub added_are : change.added.items ≡ added
  pub marked_are : change.marked.items ≡ marked
  pub unmarked_are : change.unmarked.items ≡ unmarked
  pub removed_are : change.removed.items ≡ removed

abbrev pub AreGiven : Slots → List PoolId → Type 0
AreGiven slots [] = Unit {0}
AreGiven slots (id ∷ ids) = (is_given (slots id) ≡ true) × AreGiven slots ids

abbrev pub AreLive : Slots → List PoolId → Type 0
AreLive slots [] = Unit {0}
AreLive slots (id ∷ ids) = (is_live (slots id) ≡ true) × AreLive slots ids

abbrev pub AreUnclaimed : Slots → List PoolId → Type 0
AreUnclaimed slots [] = Unit {0}
AreUnclaimed slots (id ∷ ids) = (is_live (slots id) ≡ true) × (claims_of (slots id) ≡ 0) × AreUnclaimed slots ids
