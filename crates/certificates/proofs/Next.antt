-- A thing that may stand behind others, or that may not.
use Rattle.std.specs.Prelude.{◌≡◌, ℕ, true, false, List, [], ◌∷◌, ◌++◌, Option, Some}
use Rattle.std.specs.declared.cmp.Ordering.{Ordering}
use Rattle.std.proofs.Common.{refl, sym, ◌∙◌}
use Rattle.std.proofs.lemmas.Bool.{false≢true}
use Rattle.wire_bytes.specs.declared.fault.FieldFault.{FieldFault}
use Rattle.wire_bytes.specs.declared.fault.FieldFault.TheVariants.{Ended, Foreign}
use Rattle.wire_bytes.specs.Reading.{Reading}
use Rattle.wire_bytes.specs.Grammar.{Grammar, field}
use Rattle.wire_bytes.specs.GrammarReading.{Finds, Refuses, fault_offset}
use Rattle.wire_bytes.specs.GrammarLaws.{field_fits, narrow_finds, misfit_refuses, whole_refuses}
use Rattle.certificates.specs.Layout.{last_key, is_after, IsNext}

pub last_key-snoc : {A K : Type 0} (key : A → K) (xs : List A) (x : A) → last_key key (xs ++ x ∷ []) ≡ Some (key x)
last_key-snoc key [] x = refl
last_key-snoc key (y ∷ []) x = refl
last_key-snoc key (y ∷ z ∷ xs) x = last_key-snoc key (z ∷ xs) x

-- a fault tells an offset
told : (fault : FieldFault) → (offset : ℕ) × (fault_offset fault ≡ Some offset)
told (Ended offset) = (offset, refl)
told (Foreign offset) = (offset, refl)

-- a layout that is told as one, where its parts told where they break
pub whole_again : {V : Type 0} {grammar : Grammar V} {old : Reading} (fault : FieldFault) {fault' : FieldFault}
    → Refuses fault_offset grammar old fault → fault_offset fault' ≡ Some old.offset
    → Refuses fault_offset (field grammar.Fits grammar.print) old fault'
whole_again fault refused tells = whole_refuses refused (told fault).1 tells

module _ {A K : Type 0} (Fits : A → Type 0) (print : A → List ℕ) (cmp : K → K → Ordering) (key : A → K) (before : List A) {old : Reading} where
  pub next_finds : {value : A} {new : Reading} → Finds (field Fits print) old value new → true ≡ is_after cmp (last_key key before) (key value)
      → Finds (field (IsNext Fits cmp key before) print) old value new
  next_finds found is =
      narrow_finds (IsNext Fits cmp key before) print (λ v n. n.is) found (record { is = field_fits Fits print found; next = sym is })

  pub next_refuses : {value : A} {new : Reading} {E : Type 0} {offset_of : E → Option ℕ} {fault : E} → Finds (field Fits print) old value new
      → false ≡ is_after cmp (last_key key before) (key value) → offset_of fault ≡ Some old.offset
      → Refuses offset_of (field (IsNext Fits cmp key before) print) old fault
  next_refuses found is tells =
      misfit_refuses (IsNext Fits cmp key before) print (λ v n. n.is) found (λ fits. false≢true (is ∙ fits.next)) tells
