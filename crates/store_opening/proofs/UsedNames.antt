-- The names that a pool has in use, as a list in which none stands twice.
use Rattle.std.specs.Prelude.{is_some, slice_get, if◌then◌else◌}
use Rattle.std.specs.Ordering.{is_eq}
use Rattle.std.specs.BTreeMap.{is_at}
use Rattle.std.specs.Map.{lookup}
use Rattle.std.proofs.Common.{◌≡◌, ℕ, zero, suc, Bool, true, false, List, [], ◌∷◌, Some, refl, sym, ap, ◌∙◌, subst, inl, inr}
use Rattle.std.proofs.lemmas.Bool.{false≢true}
use Rattle.disk_trait.specs.declared.ids.PoolId.{PoolId}
use Rattle.intent_journal.specs.ChangesLaws.{either}
use Rattle.pool_index.specs.Items.{id_cmp}
use Rattle.pool_changes.specs.declared.names.Names.{Names}
use Rattle.pool_changes.specs.declared.slot.Slot.{Slot}
use Rattle.pool_changes.specs.SlotsLaws.{same_id, id_itself, equal_of}
use Rattle.pool_changes.specs.Kept.{slots_of}
use Rattle.office_model.specs.UsedNames.{Among, AreDistinct}
use Rattle.store_parts.specs.Held.{AreUsed}

abbrev is_in : List (PoolId × Slot) → PoolId → Bool
is_in entries id = is_some (lookup (is_at (id_cmp id)) entries)

-- the names of the entries, each where it stands last
used_in : List (PoolId × Slot) → List PoolId
used_in [] = []
used_in (entry ∷ entries) = if is_in entries entry.0 then used_in entries else entry.0 ∷ used_in entries

again_is : (entry : PoolId × Slot) (entries : List (PoolId × Slot)) → is_in entries entry.0 ≡ true
    → used_in (entry ∷ entries) ≡ used_in entries
unfolding used_in
again_is entry entries again = rw again refl

last_is : (entry : PoolId × Slot) (entries : List (PoolId × Slot)) → is_in entries entry.0 ≡ false
    → used_in (entry ∷ entries) ≡ entry.0 ∷ used_in entries
unfolding used_in
last_is entry entries last = rw last refl

one_name : (a b : PoolId) → is_eq (id_cmp a b) ≡ true → a ≡ b
one_name a b e = same_id a b (equal_of (id_cmp a b) e)

in_more : (entry : PoolId × Slot) (entries : List (PoolId × Slot)) (id : PoolId) → is_in entries id ≡ true
    → is_in (entry ∷ entries) id ≡ true
in_more entry entries id there = elim (either (is_eq (id_cmp id entry.0))) [
  | inl same ↦ rw same refl
  | inr other ↦ rw other there
]

step_there : (entry : PoolId × Slot) (entries : List (PoolId × Slot)) (id : PoolId) → (Among (used_in entries) id → is_in entries id ≡ true)
    → (i : ℕ) → slice_get (entry.0 ∷ used_in entries) i ≡ Some id → is_in (entry ∷ entries) id ≡ true
step_there entry entries id rest zero e =
    let same : entry.0 ≡ id = cc in
    let equal : is_eq (id_cmp id entry.0) ≡ true = subst (λ (x : PoolId). is_eq (id_cmp id x) ≡ true) (sym same) (id_itself id) in
    rw equal refl
step_there entry entries id rest (suc i) e = in_more entry entries id (rest (i, e))

used_there : (entries : List (PoolId × Slot)) (id : PoolId) → Among (used_in entries) id → is_in entries id ≡ true
unfolding used_in
used_there [] id w = absurd cc
used_there (entry ∷ entries) id w = elim (either (is_in entries entry.0)) [
  | inl again ↦ in_more entry entries id (used_there entries id (subst (λ (ids : List PoolId). Among ids id)
      (again_is entry entries again) w))
  | inr last ↦
      step_there entry entries id (used_there entries id) w.0
      (subst (λ (ids : List PoolId). slice_get ids w.0 ≡ Some id) (last_is entry entries last) w.1)
]

later : (entry : PoolId × Slot) (entries : List (PoolId × Slot)) (id : PoolId) → is_in (entry ∷ entries) id ≡ true
    → is_in entries entry.0 ≡ true → is_in entries id ≡ true
later entry entries id there again = elim (either (is_eq (id_cmp id entry.0))) [
  | inl same ↦ subst (λ (x : PoolId). is_in entries x ≡ true) (sym (one_name id entry.0 same)) again
  | inr other ↦ sym (rw other refl) ∙ there
]

here : (entry : PoolId × Slot) (entries : List (PoolId × Slot)) (id : PoolId) → (is_in entries id ≡ true → Among (used_in entries) id)
    → is_in (entry ∷ entries) id ≡ true → Among (entry.0 ∷ used_in entries) id
here entry entries id rest there = elim (either (is_eq (id_cmp id entry.0))) [
  | inl same ↦ (zero, ap (λ (x : PoolId). Some x) (sym (one_name id entry.0 same)))
  | inr other ↦ let w = rest (sym (rw other refl) ∙ there) in (suc w.0, w.1)
]

there_used : (entries : List (PoolId × Slot)) (id : PoolId) → is_in entries id ≡ true → Among (used_in entries) id
unfolding used_in
there_used [] id there = absurd (false≢true there)
there_used (entry ∷ entries) id there = elim (either (is_in entries entry.0)) [
  | inl again ↦
      subst (λ (ids : List PoolId). Among ids id) (sym (again_is entry entries again)) (there_used entries id
      (later entry entries id there again))
  | inr last ↦ subst (λ (ids : List PoolId). Among ids id) (sym (last_is entry entries last)) (here entry entries id
      (there_used entries id) there)
]

apart : (entry : PoolId × Slot) (entries : List (PoolId × Slot)) → is_in entries entry.0 ≡ false → (i : ℕ) (a : PoolId)
    → slice_get (used_in entries) i ≡ Some a → entry.0 ≡ a → ⊥
apart entry entries last i a e same =
    false≢true (sym last ∙ used_there entries entry.0 (i, e ∙ ap (λ (x : PoolId). Some x) (sym same)))

one_more : (entry : PoolId × Slot) (entries : List (PoolId × Slot)) → is_in entries entry.0 ≡ false → AreDistinct (used_in entries)
    → AreDistinct (entry.0 ∷ used_in entries)
one_more entry entries last rest zero zero a b at_i at_j same = refl
one_more entry entries last rest zero (suc j) a b at_i at_j same =
    let first : entry.0 ≡ a = cc in absurd (apart entry entries last j b at_j (first ∙ same))
one_more entry entries last rest (suc i) zero a b at_i at_j same =
    let first : entry.0 ≡ b = cc in absurd (apart entry entries last i a at_i (first ∙ sym same))
one_more entry entries last rest (suc i) (suc j) a b at_i at_j same = ap suc (rest i j a b at_i at_j same)

used_once : (entries : List (PoolId × Slot)) → AreDistinct (used_in entries)
unfolding used_in
used_once [] = λ i j a b at_i at_j same. absurd cc
used_once (entry ∷ entries) = elim (either (is_in entries entry.0)) [
  | inl again ↦ subst AreDistinct (sym (again_is entry entries again)) (used_once entries)
  | inr last ↦ subst AreDistinct (sym (last_is entry entries last)) (one_more entry entries last (used_once entries))
]

pub used_of : Names → List PoolId
used_of names = used_in names.map.entries

pub used_names : (names : Names) → AreUsed (slots_of names) (used_of names)
unfolding used_of
used_names names = record {
  distinct = used_once names.map.entries;
  slot = λ id among. used_there names.map.entries id among;
  among = λ id there. there_used names.map.entries id there;
  near = λ id there. (names.named id there).extension;
}
