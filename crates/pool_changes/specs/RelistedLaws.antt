-- Laws of specs/Relisted.
use Rattle.std.proofs.Common.{◌≡◌, ◌≤◌, arith, subst, ℕ, true, false, List, [], ◌∷◌, Option, Some, None, inl, inr, refl, sym, ap, ◌∙◌}
use Rattle.std.proofs.lemmas.Bool.{false≢true}
use Rattle.disk_trait.specs.declared.ids.PoolId.{PoolId}
use Rattle.intent_journal.specs.ChangesLaws.{either}
use Rattle.pool_changes.specs.declared.slot.Slot.{Slot}
use Rattle.pool_changes.specs.declared.slot.Slot.TheVariants.{Live, Staged, Doomed}
use Rattle.pool_changes.specs.declared.slot.Turn.{Turn}
use Rattle.pool_changes.specs.declared.slot.Turn.TheVariants.{Add, Mark, Unmark, Remove}
use Rattle.pool_index.specs.Items.{is_same_id}
use Rattle.pool_changes.specs.Slots.{Slots, with_slot, is_given, size_of, one_id, claims_of}
use Rattle.pool_changes.specs.Kept.{IsSame}
use Rattle.pool_changes.specs.Relisted.{AreAtMost, relisted, turned}

with_alike : (a b : Slots) (id : PoolId) (s t : Option Slot) → IsSame a b → s ≡ t → IsSame (with_slot a id s) (with_slot b id t)
with_alike a b id s t same one asked = elim (either (is_same_id asked id)) [
  | inl here ↦ rw here (sym one)
  | inr other ↦ rw other (same asked)
]

-- pointwise equal slots are turned alike
pub relisted_alike : (turn : Turn) (ids : List PoolId) (a b : Slots) → IsSame a b → IsSame (relisted turn ids a) (relisted turn ids b)
relisted_alike turn [] a b same = same
relisted_alike turn (id ∷ ids) a b same =
    relisted_alike turn ids (with_slot a id (turned turn (a id))) (with_slot b id (turned turn (b id)))
    (with_alike a b id (turned turn (a id)) (turned turn (b id)) same (sym (ap (turned turn) (same id))))

turned_none : (turn : Turn) → turned turn None ≡ None
turned_none Add = refl
turned_none Mark = refl
turned_none Unmark = refl
turned_none Remove = refl

-- an unused name stays unused
pub turn_none : (turn : Turn) (slots : Slots) (id : PoolId) → slots id ≡ None → IsSame (with_slot slots id (turned turn (slots id))) slots
turn_none turn slots id none asked = elim (either (is_same_id asked id)) [
  | inl here ↦ rw here (ap slots (one_id asked id here) ∙ none ∙ sym (ap (turned turn) none ∙ turned_none turn))
  | inr other ↦ rw other refl
]

-- one step
pub turn_next : (turn : Turn) (start now next : Slots) (id : PoolId) (here rest : List PoolId) → here ≡ id ∷ rest → IsSame start (relisted turn here now)
    → IsSame (with_slot now id (turned turn (now id))) next → IsSame start (relisted turn rest next)
turn_next turn start now next id here rest first before one asked =
    relisted_alike turn rest (with_slot now id (turned turn (now id))) next one asked
    ∙ sym (ap (λ (ids : List PoolId). relisted turn ids now asked) first)
    ∙ before asked

claims_turned : (turn : Turn) (slot : Option Slot) → claims_of (turned turn slot) ≤ claims_of slot
claims_turned Add None = omega arith
claims_turned Add (Some (Live size mark claims)) = omega arith
claims_turned Add (Some (Staged size claims)) = omega arith
claims_turned Add (Some Doomed) = omega arith
claims_turned Mark None = omega arith
claims_turned Mark (Some (Live size mark claims)) = omega arith
claims_turned Mark (Some (Staged size claims)) = omega arith
claims_turned Mark (Some Doomed) = omega arith
claims_turned Unmark None = omega arith
claims_turned Unmark (Some (Live size mark claims)) = omega arith
claims_turned Unmark (Some (Staged size claims)) = omega arith
claims_turned Unmark (Some Doomed) = omega arith
claims_turned Remove None = omega arith
claims_turned Remove (Some (Live size mark claims)) = omega arith
claims_turned Remove (Some (Staged size claims)) = omega arith
claims_turned Remove (Some Doomed) = omega arith

pub most_relisted : (turn : Turn) (ids : List PoolId) (slots : Slots) (most : ℕ) → AreAtMost most slots → AreAtMost most (relisted turn ids slots)
most_relisted turn [] slots most at = at
most_relisted turn (id ∷ ids) slots most at = most_relisted turn ids (with_slot slots id (turned turn (slots id))) most
    (λ asked. elim (either (is_same_id asked id)) [
      | inl here ↦ rw here (omega (arith, claims_turned turn (slots id), at id))
      | inr other ↦ rw other (at asked)
    ])

pub most_same : (old new : Slots) (most : ℕ) → IsSame old new → AreAtMost most old → AreAtMost most new
most_same old new most same at id = subst (λ (slot : Option Slot). claims_of slot ≤ most) (sym (same id)) (at id)

pub same_then : (turn : Turn) (ids : List PoolId) (a b c : Slots) → IsSame a b → IsSame (relisted turn ids b) c → IsSame (relisted turn ids a) c
same_then turn ids a b c first second asked = second asked ∙ relisted_alike turn ids a b first asked

pub turned_given : (turn : Turn) (slot : Option Slot) → is_given (turned turn slot) ≡ true → (is_given slot ≡ true) × (size_of (turned turn slot) ≡ size_of slot)
turned_given Add None e = (e, refl)
turned_given Add (Some (Live size mark claims)) e = (refl, refl)
turned_given Add (Some (Staged size claims)) e = (refl, refl)
turned_given Add (Some Doomed) e = (e, refl)
turned_given Mark None e = (e, refl)
turned_given Mark (Some (Live size mark claims)) e = (refl, refl)
turned_given Mark (Some (Staged size claims)) e = (refl, refl)
turned_given Mark (Some Doomed) e = (e, refl)
turned_given Unmark None e = (e, refl)
turned_given Unmark (Some (Live size mark claims)) e = (refl, refl)
turned_given Unmark (Some (Staged size claims)) e = (refl, refl)
turned_given Unmark (Some Doomed) e = (e, refl)
turned_given Remove None e = (e, refl)
turned_given Remove (Some (Live size mark claims)) e = absurd (false≢true e)
turned_given Remove (Some (Staged size claims)) e = (refl, refl)
turned_given Remove (Some Doomed) e = (e, refl)
