-- The index of a pool after names were added: those of the rows of a tree that is committed.
--     is_among ids id      the name is one of these
--     added_index      the item of a name after names were added
--     listed_with_added      the index lists the names of rows, unmarked, if the names that were added are theirs
use Rattle.std.specs.Prelude.{◌≡◌, ℕ, Bool, true, false, ◌||◌, List, [], ◌∷◌, length, Option, Some, None, if◌then◌else◌}
use Rattle.std.proofs.Common.{refl, sym, ap, ◌∙◌}
use Rattle.std.proofs.lemmas.Bool.{false≢true}
use Rattle.disk_trait.specs.declared.ids.PoolId.{PoolId}
use Rattle.pool_index.specs.declared.item.IndexItem.{IndexItem}
use Rattle.pool_index.specs.Items.{is_same_id}
use Rattle.pool_changes.specs.declared.slot.Slot.{Slot}
use Rattle.pool_changes.specs.declared.slot.Slot.TheVariants.{Live, Staged, Doomed}
use Rattle.pool_changes.specs.Slots.{Slots, with_slot, is_given, size_of, one_id}
use Rattle.pool_changes.specs.Relisted.{added}
use Rattle.pool_changes.specs.Indexed.{AreGiven, relisted_by}
use Rattle.pool_changes.specs.Listed.{item_of, index_of}
use Rattle.merge_view.specs.Views.{Rows}
use Rattle.office_changes.specs.Commits.{is_named, unmarked_item, IsListedWith}

abbrev pub is_among : List PoolId → PoolId → Bool
is_among [] id = false
is_among (other ∷ ids) id = is_same_id id other || is_among ids id

-- an item of this size, which isn't marked
abbrev pub new_item : PoolId → ℕ → IndexItem
new_item id size = record { id = id; size = size; mark = false }

added_size : (slot : Option Slot) → size_of (added slot) ≡ size_of slot
added_size None = refl
added_size (Some (Live size mark claims)) = refl
added_size (Some (Staged size claims)) = refl
added_size (Some Doomed) = refl

added_given : (slot : Option Slot) → is_given (added slot) ≡ is_given slot
added_given None = refl
added_given (Some (Live size mark claims)) = refl
added_given (Some (Staged size claims)) = refl
added_given (Some Doomed) = refl

added_item : (id : PoolId) (slot : Option Slot) → is_given slot ≡ true → item_of id (added slot) ≡ Some (new_item id (size_of slot))
added_item id None e = absurd (false≢true e)
added_item id (Some (Live size mark claims)) e = refl
added_item id (Some (Staged size claims)) e = refl
added_item id (Some Doomed) e = absurd (false≢true e)

-- the slots with one name added
abbrev with_added : Slots → PoolId → Slots
with_added slots other = with_slot slots other (added (slots other))

module _ (slots : Slots) (other id : PoolId) where
  here : is_same_id id other ≡ true → with_added slots other id ≡ added (slots id)
  here e =
      ap (λ (b : Bool). if b then added (slots other) else slots id) e
      ∙ ap (λ (i : PoolId). added (slots i)) (sym (one_id id other e))

  elsewhere : is_same_id id other ≡ false → with_added slots other id ≡ slots id
  elsewhere e = ap (λ (b : Bool). if b then added (slots other) else slots id) e

  size_still : size_of (with_added slots other id) ≡ size_of (slots id)
  size_still = step (is_same_id id other) refl
    where
      step : (b : Bool) → is_same_id id other ≡ b → size_of (with_added slots other id) ≡ size_of (slots id)
      step true e = ap size_of (here e) ∙ added_size (slots id)
      step false e = ap size_of (elsewhere e)

  given_still : is_given (with_added slots other id) ≡ is_given (slots id)
  given_still = step (is_same_id id other) refl
    where
      step : (b : Bool) → is_same_id id other ≡ b → is_given (with_added slots other id) ≡ is_given (slots id)
      step true e = ap is_given (here e) ∙ added_given (slots id)
      step false e = ap is_given (elsewhere e)

all_given : (slots : Slots) (other : PoolId) (ids : List PoolId) → AreGiven slots ids → AreGiven (with_added slots other) ids
all_given slots other [] are = tt
all_given slots other (id ∷ ids) are = (given_still slots other id ∙ are.0, all_given slots other ids are.1)

pub added_index : (ids : List PoolId) (slots : Slots) → AreGiven slots ids → (id : PoolId)
    → index_of (relisted_by ids [] [] [] slots) id ≡ (if is_among ids id then Some (new_item id (size_of (slots id))) else index_of slots id)
added_index [] slots are id = refl
added_index (other ∷ ids) slots are id =
    added_index ids (with_added slots other) (all_given slots other ids are.1) id ∙ step (is_same_id id other) refl (is_among ids id)
  where
    step : (b : Bool) → is_same_id id other ≡ b → (c : Bool)
        → (if c then Some (new_item id (size_of (with_added slots other id))) else index_of (with_added slots other) id)
        ≡ (if is_same_id id other || c then Some (new_item id (size_of (slots id))) else index_of slots id)
    step true e true =
        ap (λ (n : ℕ). Some (new_item id n)) (size_still slots other id)
        ∙ sym (ap (λ (b : Bool). if b || true then Some (new_item id (size_of (slots id))) else index_of slots id) e)
    step true e false =
        ap (item_of id) (here slots other id e)
        ∙ added_item id (slots id) (ap (λ (i : PoolId). is_given (slots i)) (one_id id other e) ∙ are.0)
        ∙ sym (ap (λ (b : Bool). if b || false then Some (new_item id (size_of (slots id))) else index_of slots id) e)
    step false e true =
        ap (λ (n : ℕ). Some (new_item id n)) (size_still slots other id)
        ∙ sym (ap (λ (b : Bool). if b || true then Some (new_item id (size_of (slots id))) else index_of slots id) e)
    step false e false =
        ap (item_of id) (elsewhere slots other id e)
        ∙ sym (ap (λ (b : Bool). if b || false then Some (new_item id (size_of (slots id))) else index_of slots id) e)

-- the names that rows name were added, each of a content of its size
pub listed_with_added : (ids : List PoolId) (slots : Slots) (rows : Rows) (contents : PoolId → List ℕ) → AreGiven slots ids
    → ((id : PoolId) → is_among ids id ≡ is_named id rows)
    → ((id : PoolId) → is_named id rows ≡ true → size_of (slots id) ≡ length (contents id))
    → IsListedWith rows contents (index_of slots) (index_of (relisted_by ids [] [] [] slots))
listed_with_added ids slots rows contents are among sizes id =
    added_index ids slots are id ∙ ap (λ (b : Bool). if b then Some (new_item id (size_of (slots id))) else index_of slots id) (among id)
    ∙ step (is_named id rows) refl
  where
    step : (b : Bool) → is_named id rows ≡ b
        → (if b then Some (new_item id (size_of (slots id))) else index_of slots id) ≡ (if b then Some (unmarked_item id (contents id)) else index_of slots id)
    step true e = ap (λ (n : ℕ). Some (new_item id n)) (sizes id e)
    step false e = refl
