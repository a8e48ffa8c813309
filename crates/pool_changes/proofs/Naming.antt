-- What holds of all names, and their order.
use Rattle.std.proofs.Common.{◌≡◌, ◌<◌, ◌≤◌, ℕ, zero, suc, Bool, true, false, cond, List, [], ◌∷◌, length, replicate, Option, Some, None, is_some, Result, Ok, Err, OnOk, OnErr, refl, sym, ap, ◌∙◌, subst, arith}
use Rattle.std.specs.declared.cmp.Ordering.{Ordering}
use Rattle.std.specs.declared.cmp.Ordering.TheVariants.{Less, Equal, Greater}
use Rattle.std.specs.Ordering.{nat_cmp, ordering_then, is_eq, is_gt, ordering_reverse, MatchOrdering}
use Rattle.std.specs.BTreeMap.{BTreeMap, Updates}
use Rattle.std.specs.Map.{lookup}
use Rattle.std.specs.Cmp.{ranked, nat_cmp_is}
use Rattle.std.proofs.lemmas.Cmp.{tied_itself}
use Rattle.std.specs.Cmp.Lexicographic.{slice_cmp, nat_list_cmp_total}
use Rattle.std.specs.FinMap.{nat_cmp-IsAntisymmetric, slice_cmp-IsAntisymmetric}
use Rattle.std.proofs.lemmas.Bool.{false≢true}
use Rattle.disk_trait.specs.declared.ids.PoolId.{PoolId}
use Rattle.pool_index.specs.Items.{id_cmp}
use Rattle.pool_index.specs.ItemLaws.{id_total}
use Rattle.pool_changes.specs.declared.slot.Slot.{Slot}
use Rattle.pool_changes.specs.Slots.{Slots, slots_in, id_of, is_given, size_of, least_of}
use Rattle.pool_changes.specs.SlotsLaws.{same_id, equal_of}
use Rattle.pool_changes.specs.NameLaws.{le_not_gt}
use Rattle.pool_changes.specs.Named.{IsName, AreNames, AreSized}

-- ---- one name gets another slot

-- the slots behind an update of a map
abbrev pub IsUpdated : (old new : Slots) → PoolId → Option Slot → Type 0
IsUpdated old new id slot = (asked : PoolId) → new asked ≡ cond (is_eq (id_cmp id asked)) slot (old asked)

updated : (P : PoolId → Option Slot → Type 0) (old new : Slots) (id : PoolId) (slot : Option Slot) → IsUpdated old new id slot → P id slot → ((asked : PoolId) → P asked (old asked)) → (asked : PoolId) → P asked (new asked)
updated P old new id slot is here before asked = step (is_eq (id_cmp id asked)) refl
  where
    step : (b : Bool) → is_eq (id_cmp id asked) ≡ b → P asked (new asked)
    step true e =
        let one : id ≡ asked = same_id id asked (equal_of _ e) in
        subst (P asked) (sym (is asked ∙ ap (λ (t : Bool). cond t slot (old asked)) e)) (subst (λ (x : PoolId). P x slot) one here)
    step false e = subst (P asked) (sym (is asked ∙ ap (λ (t : Bool). cond t slot (old asked)) e)) (before asked)

abbrev IsGood : PoolId → Option Slot → Type 0
IsGood id slot = (is_some slot ≡ true → IsName id) × (is_given slot ≡ true → 0 < size_of slot)

pub good_updated : (old new : Slots) (id : PoolId) (slot : Option Slot) → IsUpdated old new id slot → (is_some slot ≡ true → IsName id) → (is_given slot ≡ true → 0 < size_of slot)
    → AreNames old → AreSized old → AreNames new × AreSized new
good_updated old new id slot is name sized names sizes =
    let all = updated IsGood old new id slot is (name, sized) (λ asked. (names asked, sizes asked)) in
    (λ asked. (all asked).0, λ asked. (all asked).1)

-- behind an insertion, whatever it answered
pub good_put : {T E : Type 0} (result : Result T E) (old new : BTreeMap PoolId Slot) (id : PoolId) (slot : Slot) → OnOk result (Updates id_cmp old new id (Some slot)) → OnErr result (new.entries ≡ old.entries)
    → IsName id → (is_given (Some slot) ≡ true → 0 < size_of (Some slot)) → AreNames (slots_in old) → AreSized (slots_in old) → AreNames (slots_in new) × AreSized (slots_in new)
good_put (Ok x) old new id slot ok err name sized names sizes = good_updated (slots_in old) (slots_in new) id (Some slot) ok.0 (λ _. name) sized names sizes
good_put (Err e) old new id slot ok err name sized names sizes =
    let same : (asked : PoolId) → slots_in new asked ≡ slots_in old asked = λ asked. ap (lookup (λ k. is_eq (id_cmp asked k))) err in
    (λ asked some. names asked (sym (ap is_some (same asked)) ∙ some), λ asked given. subst (λ (s : Option Slot). 0 < size_of s) (sym (same asked)) (sizes asked (sym (ap is_given (same asked)) ∙ given)))

-- ---- names of one digest

-- a name between two of one digest has it
pub same_digest : (low middle high : PoolId) → low.digest ≡ high.digest → is_gt (id_cmp low middle) ≡ false → is_gt (id_cmp middle high) ≡ false → middle.digest ≡ low.digest
same_digest low middle high same first second = step (slice_cmp nat_cmp low.digest middle.digest) refl first
  where
    not_behind : (r s : Ordering) → is_gt (ordering_then r s) ≡ false → r ≡ Greater → ⊥
    not_behind Less s e g = absurd (cc)
    not_behind Equal s e g = absurd (cc)
    not_behind Greater s e g = absurd (false≢true (sym e))

    step : (r : Ordering) → slice_cmp nat_cmp low.digest middle.digest ≡ r → is_gt (ordering_then r (nat_cmp low.extension middle.extension)) ≡ false → middle.digest ≡ low.digest
    step Less is e =
        let back : slice_cmp nat_cmp middle.digest high.digest ≡ Greater =
        ap (slice_cmp nat_cmp middle.digest) (sym same) ∙ nat_list_cmp_total.antisymm middle.digest low.digest ∙ ap ordering_reverse is in
        absurd (not_behind (slice_cmp nat_cmp middle.digest high.digest) (nat_cmp middle.extension high.extension) second back)
    step Equal is e = sym (slice_cmp-IsAntisymmetric nat_cmp-IsAntisymmetric low.digest middle.digest is)
    step Greater is e = absurd (false≢true (sym e))

same_list : (digest : List ℕ) → slice_cmp nat_cmp digest digest ≡ Equal
same_list digest = tied_itself nat_list_cmp_total digest

pub by_extension : (digest : List ℕ) (a b : ℕ) → id_cmp (id_of digest a) (id_of digest b) ≡ nat_cmp a b
by_extension digest a b = ap (λ (r : Ordering). ordering_then r (nat_cmp a b)) (same_list digest)

lt_gt : (a b : ℕ) → b < a → is_gt (nat_cmp a b) ≡ true
lt_gt a b lt = ap is_gt (sym (nat_cmp_is a b Greater lt))

-- the first used name from one on is the least of its digest
pub least_used : (slots : Slots) (digest : List ℕ) (from : ℕ) (first : PoolId) → first.digest ≡ digest
    → ((other : PoolId) → is_gt (id_cmp (id_of digest from) other) ≡ false → (slots other ≡ None → ⊥) → is_gt (id_cmp first other) ≡ false)
    → (x : ℕ) → from ≤ x → x < first.extension → (slots (id_of digest x) ≡ None → ⊥) → ⊥
least_used slots digest from first same least x le lt used =
    let here = least (id_of digest x) (ap is_gt (by_extension digest from x) ∙ le_not_gt from x le) used in
    let one : first ≡ id_of digest first.extension = ap (λ (d : List ℕ). id_of d first.extension) same in
    false≢true (sym here ∙ ap (λ (id : PoolId). is_gt (id_cmp id (id_of digest x))) one ∙ ap is_gt (by_extension digest first.extension x) ∙ lt_gt first.extension x lt)

-- where the first used name from one on has another digest, none of the digest is used
pub none_used : (slots : Slots) (digest : List ℕ) (from : ℕ) (first : PoolId) → (first.digest ≡ digest → ⊥) → is_gt (id_cmp (id_of digest from) first) ≡ false
    → ((other : PoolId) → is_gt (id_cmp (id_of digest from) other) ≡ false → (slots other ≡ None → ⊥) → is_gt (id_cmp first other) ≡ false)
    → (x : ℕ) → from ≤ x → (slots (id_of digest x) ≡ None → ⊥) → ⊥
none_used slots digest from first other_digest behind least x le used =
    let here = least (id_of digest x) (ap is_gt (by_extension digest from x) ∙ le_not_gt from x le) used in
    other_digest (same_digest (id_of digest from) first (id_of digest x) refl behind here)

pub from_extension : (digest : List ℕ) (from : ℕ) (first : PoolId) → first.digest ≡ digest → is_gt (id_cmp (id_of digest from) first) ≡ false → from ≤ first.extension
from_extension digest from first same behind =
    let one : first ≡ id_of digest first.extension = ap (λ (d : List ℕ). id_of d first.extension) same in
    step (nat_cmp from first.extension) (ranked from first.extension (nat_cmp from first.extension) refl)
    (sym (ap is_gt (by_extension digest from first.extension)) ∙ sym (ap (λ (id : PoolId). is_gt (id_cmp (id_of digest from) id)) one) ∙ behind)
  where
    step : (r : Ordering) → MatchOrdering r (from < first.extension) (from ≡ first.extension) (first.extension < from) → is_gt r ≡ false → from ≤ first.extension
    step Less is e = omega (arith, is)
    step Equal is e = omega (arith, is)
    step Greater is e = absurd (false≢true (sym e))

pub none_of : (slot : Option Slot) → ((slot ≡ None → ⊥) → ⊥) → slot ≡ None
none_of None f = refl
none_of (Some s) f = absurd (f (λ e. some_none e))
  where
    some_none : Some s ≡ None → ⊥
    some_none e = cc
