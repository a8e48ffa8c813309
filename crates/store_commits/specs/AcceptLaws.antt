-- The pool behind a commit: names were added, the change was accepted, and claims were let go.
--     kept_by      what an addition keeps of a slot, it keeps of all names
--     IsAccepted      the pool behind a commit
use Rattle.std.specs.Prelude.{◌≡◌, ℕ, ◌+◌, ◌<◌, Bool, true, false, List, [], ◌∷◌, Option, Some, None, is_some, if◌then◌else◌}
use Rattle.std.proofs.Common.{refl, sym, ap, ◌∙◌, subst}
use Rattle.disk_trait.specs.declared.ids.PoolId.{PoolId}
use Rattle.pool_index.specs.Items.{is_same_id}
use Rattle.pool_changes.specs.declared.slot.Slot.{Slot}
use Rattle.pool_changes.specs.declared.slot.Slot.TheVariants.{Live, Staged, Doomed}
use Rattle.pool_changes.specs.Slots.{Slots, with_slot, is_given, size_of, claims_of, one_id}
use Rattle.pool_changes.specs.Relisted.{added}
use Rattle.pool_changes.specs.Kept.{IsSame}
use Rattle.pool_changes.specs.Indexed.{relisted_by}
use Rattle.pool_changes.specs.Listed.{index_of}
pub use Rattle.store_dumps.specs.Claims.{Loses}
use Rattle.store_dumps.specs.Claims.{LetsGo}

-- the names with these added
abbrev pub with_added : List PoolId → Slots → Slots
with_added ids slots = relisted_by ids [] [] [] slots

module _ {A : Type 0} (f : Option Slot → A) (stays : (slot : Option Slot) → f (added slot) ≡ f slot) where
  one_kept : (slots : Slots) (other id : PoolId) → f (with_slot slots other (added (slots other)) id) ≡ f (slots id)
  one_kept slots other id = step (is_same_id id other) refl
    where
      step : (b : Bool) → is_same_id id other ≡ b → f (if is_same_id id other then added (slots other) else slots id) ≡ f (slots id)
      step true e = rw e (stays (slots other) ∙ ap (λ (x : PoolId). f (slots x)) (sym (one_id id other e)))
      step false e = rw e refl

  pub kept_by : (ids : List PoolId) (slots : Slots) (id : PoolId) → f (with_added ids slots id) ≡ f (slots id)
  kept_by [] slots id = refl
  kept_by (other ∷ ids) slots id = kept_by ids (with_slot slots other (added (slots other))) id ∙ one_kept slots other id

added_claims : (slot : Option Slot) → claims_of (added slot) ≡ claims_of slot
added_claims None = refl
added_claims (Some (Live size mark claims)) = refl
added_claims (Some (Staged size claims)) = refl
added_claims (Some Doomed) = refl

added_given : (slot : Option Slot) → is_given (added slot) ≡ is_given slot
added_given None = refl
added_given (Some (Live size mark claims)) = refl
added_given (Some (Staged size claims)) = refl
added_given (Some Doomed) = refl

added_used : (slot : Option Slot) → is_some (added slot) ≡ is_some slot
added_used None = refl
added_used (Some (Live size mark claims)) = refl
added_used (Some (Staged size claims)) = refl
added_used (Some Doomed) = refl

added_size : (slot : Option Slot) → size_of (added slot) ≡ size_of slot
added_size None = refl
added_size (Some (Live size mark claims)) = refl
added_size (Some (Staged size claims)) = refl
added_size (Some Doomed) = refl

pub claims_added : (ids : List PoolId) (slots : Slots) (id : PoolId) → claims_of (with_added ids slots id) ≡ claims_of (slots id)
claims_added = kept_by claims_of added_claims

pub given_added : (ids : List PoolId) (slots : Slots) (id : PoolId) → is_given (with_added ids slots id) ≡ is_given (slots id)
given_added = kept_by is_given added_given

pub used_added : (ids : List PoolId) (slots : Slots) (id : PoolId) → is_some (with_added ids slots id) ≡ is_some (slots id)
used_added = kept_by is_some added_used

pub size_added : (ids : List PoolId) (slots : Slots) (id : PoolId) → size_of (with_added ids slots id) ≡ size_of (slots id)
size_added = kept_by size_of added_size

-- names were added, and behind that so many claims let go
pub record IsAccepted (ids : List PoolId) (count : PoolId → ℕ) (old new : Slots) : Type 0 where
  pub go : LetsGo count (with_added ids old) new

module _ (ids : List PoolId) (count : PoolId → ℕ) (old new : Slots) (accepted : IsAccepted ids count old new) where
  pub accepted_index : index_of new ≡ index_of (with_added ids old)
  accepted_index = λ i id. (accepted.go id).live i

  pub accepted_claims : (id : PoolId) → claims_of (new id) + count id ≡ claims_of (old id)
  accepted_claims id = (accepted.go id).claims ∙ claims_added ids old id

  pub accepted_given : (id : PoolId) → is_given (old id) ≡ true → 0 < claims_of (new id) → is_given (new id) ≡ true
  accepted_given id g some = (accepted.go id).given (given_added ids old id ∙ g) some

  pub accepted_used : (id : PoolId) → is_some (new id) ≡ is_some (old id)
  accepted_used id = (accepted.go id).used ∙ used_added ids old id

-- from the calls
pub accepted_of : (ids : List PoolId) (count : PoolId → ℕ) (old mid new : Slots) → IsSame (with_added ids old) mid → LetsGo count mid new
    → IsAccepted ids count old new
accepted_of ids count old mid new same go = record {
  go = λ id. subst (λ (slot : Option Slot). Loses (count id) id slot (new id)) (same id) (go id);
}
