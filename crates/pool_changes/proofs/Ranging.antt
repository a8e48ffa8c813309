-- Parts of a map of names, by their order.
use Rattle.std.proofs.Common.{◌≡◌, ◌⊎◌, ◌<◌, ◌≤◌, ℕ, zero, suc, Bool, true, false, cond, not, ◌&&◌, List, [], ◌∷◌, length, replicate, slice_index, slice_get, Option, Some, None, is_some, nat_le, refl, sym, ap, ◌∙◌, subst, arith, inl, inr}
use Rattle.std.specs.declared.cmp.Ordering.{Ordering}
use Rattle.std.specs.declared.cmp.Ordering.TheVariants.{Less, Equal, Greater}
use Rattle.std.specs.declared.ops.Bound.TheVariants.{Included, Unbounded}
use Rattle.std.specs.Ordering.{nat_cmp, ordering_then, is_eq, is_gt, is_lt, is_le, ordering_reverse, MatchOrdering}
use Rattle.std.specs.Option.{IsSome, IfSome}
use Rattle.std.specs.List.{AllByRecursion, filter}
use Rattle.std.specs.List.Sorted.{IsStrictlySortedBy}
use Rattle.std.specs.Map.{lookup, keys_of}
use Rattle.std.specs.BTreeMap.{BTreeMap}
use Rattle.std.specs.BTreeMap.Range.{IsRangeOf, entries_between, range_contains}
use Rattle.std.specs.Cmp.{ranked, nat_cmp_is}
use Rattle.std.specs.Cmp.Lexicographic.{slice_cmp}
use Rattle.std.proofs.lemmas.Bool.{false≢true}
use Rattle.std.proofs.lemmas.Map.Entries.{lookup-filter-keys}
use Rattle.std.proofs.lemmas.Bool.Decides.{nat_tests}
use Rattle.disk_trait.specs.declared.ids.PoolId.{PoolId}
use Rattle.pool_index.specs.Items.{id_cmp, byte_of}
use Rattle.pool_index.specs.ItemLaws.{id_total}
use Rattle.pool_changes.specs.declared.slot.Slot.{Slot}
use Rattle.pool_changes.specs.declared.slot.Slot.TheVariants.{Doomed}
use Rattle.pool_changes.specs.Slots.{Slots, slots_in, least_of, greatest_of}
use Rattle.pool_changes.specs.SlotsLaws.{same_id, equal_of}
use Rattle.pool_changes.specs.Named.{IsName, AreNames, NoneDoomed, NoneDoomedBelow}

-- ---- the first entry from a name on

first_has : (P : PoolId × Slot → Type 0) (es : List (PoolId × Slot)) (e : PoolId × Slot) (rest : List (PoolId × Slot)) → es ≡ e ∷ rest → IfSome (slice_get es 0) P → P e
first_has P es e rest is has = subst (λ (l : List (PoolId × Slot)). IfSome (slice_get l 0) P) is has

some_of : (slot : Option Slot) → (slot ≡ None → ⊥) → IsSome slot
some_of None f = absurd (f refl)
some_of (Some s) f = refl

-- the first entry is the least
pub first_entry : (m : BTreeMap PoolId Slot) (low : PoolId) (es : List (PoolId × Slot)) (e : PoolId × Slot) (rest : List (PoolId × Slot)) → IsRangeOf id_cmp (Included low) Unbounded m es → es ≡ e ∷ rest
    → (is_gt (id_cmp low e.0) ≡ false) × (slots_in m e.0 ≡ Some e.1)
    × ((other : PoolId) → is_gt (id_cmp low other) ≡ false → (slots_in m other ≡ None → ⊥) → is_gt (id_cmp e.0 other) ≡ false)
first_entry m low es e rest range is =
    let here = first_has _ es e rest is range.1 in
    (here.0.0, here.1, λ other behind used. first_has (λ f. is_gt (id_cmp f.0 other) ≡ false) es e rest is (range.2 other (behind, tt) (some_of _ used)))

-- where there is none, no name is used
pub no_entry : (m : BTreeMap PoolId Slot) (low : PoolId) (es : List (PoolId × Slot)) → IsRangeOf id_cmp (Included low) Unbounded m es → es ≡ []
    → (other : PoolId) → is_gt (id_cmp low other) ≡ false → slots_in m other ≡ None
no_entry m low es range is other behind = range.5 is other (behind, tt)

-- ---- filters

all_cond : (P : PoolId → Type 0) (b : Bool) (e : PoolId × Slot) (es : List (PoolId × Slot)) → P e.0 → AllByRecursion P (keys_of es) → AllByRecursion P (keys_of (cond b (e ∷ es) es))
all_cond P true e es here rest = (here, rest)
all_cond P false e es here rest = rest

all_kept : (P : PoolId → Type 0) (p : PoolId × Slot → Bool) (es : List (PoolId × Slot)) → AllByRecursion P (keys_of es) → AllByRecursion P (keys_of (filter p es))
all_kept P p [] all = tt
all_kept P p (e ∷ es) all = all_cond P (p e) e (filter p es) all.0 (all_kept P p es all.1)

sorted_cond : (b : Bool) (e : PoolId × Slot) (es : List (PoolId × Slot)) → AllByRecursion (λ k. id_cmp e.0 k ≡ Less) (keys_of es) → IsStrictlySortedBy id_cmp (keys_of es) → IsStrictlySortedBy id_cmp (keys_of (cond b (e ∷ es) es))
unfolding IsStrictlySortedBy
sorted_cond true e es here rest = (here, rest)
sorted_cond false e es here rest = rest

pub sorted_kept : (p : PoolId × Slot → Bool) (es : List (PoolId × Slot)) → IsStrictlySortedBy id_cmp (keys_of es) → IsStrictlySortedBy id_cmp (keys_of (filter p es))
unfolding IsStrictlySortedBy
sorted_kept p [] sorted = tt
sorted_kept p (e ∷ es) sorted = sorted_cond (p e) e (filter p es) (all_kept (λ k. id_cmp e.0 k ≡ Less) p es sorted.0) (sorted_kept p es sorted.1)

-- an entry whose key passes is found among those that do
found_kept : (p : PoolId → Bool) (id : PoolId) (b : Bool) (es : List (PoolId × Slot)) → p id ≡ b → lookup (λ k. is_eq (id_cmp id k)) (filter (λ e. p e.0) es) ≡ cond b (lookup (λ k. is_eq (id_cmp id k)) es) None
found_kept p id b es passes = lookup-filter-keys (λ k. is_eq (id_cmp id k)) p b (λ k same. ap p (sym (same_id id k (equal_of _ same))) ∙ passes) es

le_of_gt : (r : Ordering) → is_gt r ≡ false → is_le r && not false ≡ true
le_of_gt Less e = refl
le_of_gt Equal e = refl
le_of_gt Greater e = absurd (false≢true (sym e))

-- a name that isn't before the first one asked for is found from there on as in the whole
pub found_from : (m : BTreeMap PoolId Slot) (low id : PoolId) → is_gt (id_cmp low id) ≡ false
    → lookup (λ k. is_eq (id_cmp id k)) (entries_between id_cmp (Included low) Unbounded m.entries) ≡ slots_in m id
found_from m low id behind = found_kept (range_contains id_cmp (Included low) Unbounded) id true m.entries (le_of_gt (id_cmp low id) behind)

-- ---- doomed names

-- the first of entries in order is found, and what is before it isn't there
pub none_below : (id first : PoolId) (slot : Slot) (rest : List (PoolId × Slot)) → IsStrictlySortedBy id_cmp (keys_of ((first, slot) ∷ rest)) → id_cmp id first ≡ Less
    → lookup (λ k. is_eq (id_cmp id k)) ((first, slot) ∷ rest) ≡ None
unfolding IsStrictlySortedBy
none_below id first slot rest sorted less = ap (λ (r : Ordering). cond (is_eq r) (Some slot) (lookup (λ k. is_eq (id_cmp id k)) rest)) less ∙ others rest sorted.0
  where
    others : (es : List (PoolId × Slot)) → AllByRecursion (λ k. id_cmp first k ≡ Less) (keys_of es) → lookup (λ k. is_eq (id_cmp id k)) es ≡ None
    others [] all = refl
    others (e ∷ es) all = ap (λ (r : Ordering). cond (is_eq r) (Some e.1) (lookup (λ k. is_eq (id_cmp id k)) es)) (id_total.trans id first e.0 less all.0) ∙ others es all.1

-- each doomed name from one on is found in the entries that are left
abbrev pub AreLeft : Slots → PoolId → List (PoolId × Slot) → Type 0
AreLeft slots from entries = (id : PoolId) → is_gt (id_cmp from id) ≡ false → slots id ≡ Some Doomed → lookup (λ k. is_eq (id_cmp id k)) entries ≡ Some Doomed

gt_or_less : (a b : PoolId) → (is_gt (id_cmp a b) ≡ false) ⊎ (id_cmp b a ≡ Less)
gt_or_less a b = step (id_cmp a b) refl
  where
    step : (r : Ordering) → id_cmp a b ≡ r → (is_gt (id_cmp a b) ≡ false) ⊎ (id_cmp b a ≡ Less)
    step Less is = inl (ap is_gt is)
    step Equal is = inl (ap is_gt is)
    step Greater is = inr (id_total.antisymm b a ∙ ap ordering_reverse is)

-- where the first that is left is doomed, none before it is
pub doomed_below : (slots : Slots) (from first : PoolId) (slot : Slot) (entries rest : List (PoolId × Slot)) → entries ≡ (first, slot) ∷ rest → IsStrictlySortedBy id_cmp (keys_of entries)
    → AreLeft slots from entries → NoneDoomedBelow slots from → NoneDoomedBelow slots first
doomed_below slots from first slot entries rest is sorted left below other less doomed = elim (gt_or_less from other) [
  | inl behind ↦
      let found = sym (ap (lookup (λ k. is_eq (id_cmp other k))) is) ∙ left other behind doomed in
      let none = none_below other first slot rest (subst (λ (es : List (PoolId × Slot)). IsStrictlySortedBy id_cmp (keys_of es)) is sorted) less in
      none_doomed (sym none ∙ found)
  | inr before ↦ below other before doomed
]
  where
    none_doomed : None ≡ Some Doomed → ⊥
    none_doomed e = cc

-- one that isn't doomed is passed
pub left_more : (slots : Slots) (from first : PoolId) (slot : Slot) (entries rest : List (PoolId × Slot)) → entries ≡ (first, slot) ∷ rest → (slot ≡ Doomed → ⊥) → AreLeft slots from entries → AreLeft slots from rest
left_more slots from first slot entries rest is other left id behind doomed =
    step (is_eq (id_cmp id first)) (sym (ap (lookup (λ k. is_eq (id_cmp id k))) is) ∙ left id behind doomed)
  where
    step : (b : Bool) → cond b (Some slot) (lookup (λ k. is_eq (id_cmp id k)) rest) ≡ Some Doomed → lookup (λ k. is_eq (id_cmp id k)) rest ≡ Some Doomed
    step true e = absurd (other cc)
    step false e = e

pub sorted_rest : (first : PoolId) (slot : Slot) (entries rest : List (PoolId × Slot)) → entries ≡ (first, slot) ∷ rest → IsStrictlySortedBy id_cmp (keys_of entries) → IsStrictlySortedBy id_cmp (keys_of rest)
unfolding IsStrictlySortedBy
sorted_rest first slot entries rest is sorted = (subst (λ (es : List (PoolId × Slot)). IsStrictlySortedBy id_cmp (keys_of es)) is sorted).1

pub none_left : (slots : Slots) (from : PoolId) (entries : List (PoolId × Slot)) → entries ≡ [] → AreLeft slots from entries → NoneDoomedBelow slots from → NoneDoomed slots
none_left slots from entries is left below id doomed = elim (gt_or_less from id) [
  | inl behind ↦ none_doomed (sym (ap (lookup (λ k. is_eq (id_cmp id k))) is) ∙ left id behind doomed)
  | inr before ↦ below id before doomed
]
  where
    none_doomed : None ≡ Some Doomed → ⊥
    none_doomed e = cc

-- ---- the names of some bytes

before_or : (r : Ordering) (x : ℕ) → is_gt r ≡ false → is_le (ordering_then r (nat_cmp 0 x)) ≡ true
before_or Less x e = refl
before_or Equal x e = step (nat_cmp 0 x) (ranked 0 x (nat_cmp 0 x) refl)
  where
    step : (r : Ordering) → MatchOrdering r (0 < x) (0 ≡ x) (x < 0) → is_le r ≡ true
    step Less is = refl
    step Equal is = refl
    step Greater is = absurd (omega (arith, is))
before_or Greater x e = absurd (false≢true (sym e))

zeros_first : (n : ℕ) (xs : List ℕ) → length xs ≡ n → is_gt (slice_cmp nat_cmp (replicate n 0) xs) ≡ false
zeros_first zero [] e = refl
zeros_first zero (x ∷ xs) e = absurd (omega (arith, e))
zeros_first (suc n) [] e = absurd (omega (arith, e))
zeros_first (suc n) (zero ∷ xs) e = zeros_first n xs (omega (arith, e))
zeros_first (suc n) (suc x ∷ xs) e = ap (λ (r : Ordering). is_gt (ordering_then r (slice_cmp nat_cmp (replicate n 0) xs))) (sym (nat_cmp_is 0 (suc x) Less (omega arith)))

-- from the least name of a byte on
from_byte : (byte d : ℕ) (ds : List ℕ) (x : ℕ) → length ds ≡ 15
    → is_le (ordering_then (ordering_then (nat_cmp byte d) (slice_cmp nat_cmp (replicate 15 0) ds)) (nat_cmp 0 x)) ≡ nat_le byte d
from_byte byte d ds x e = step (nat_cmp byte d) (ranked byte d (nat_cmp byte d) refl)
  where
    step : (r : Ordering) → MatchOrdering r (byte < d) (byte ≡ d) (d < byte) → is_le (ordering_then (ordering_then r (slice_cmp nat_cmp (replicate 15 0) ds)) (nat_cmp 0 x)) ≡ nat_le byte d
    step Less is = sym (grind (arith, nat_tests))
    step Equal is = before_or (slice_cmp nat_cmp (replicate 15 0) ds) x (zeros_first 15 ds e) ∙ sym (grind (arith, nat_tests))
    step Greater is = sym (grind (arith, nat_tests))

after_or : (r : Ordering) (x : ℕ) → x < 65536 → is_lt r ≡ false → is_lt (ordering_then r (nat_cmp 65535 x)) ≡ false
after_or Less x lt e = absurd (false≢true (sym e))
after_or Equal x lt e = step (nat_cmp 65535 x) (ranked 65535 x (nat_cmp 65535 x) refl)
  where
    step : (r : Ordering) → MatchOrdering r (65535 < x) (65535 ≡ x) (x < 65535) → is_lt r ≡ false
    step Less is = absurd (omega (arith, is, lt))
    step Equal is = refl
    step Greater is = refl
after_or Greater x lt e = refl

fulls_next : (x : ℕ) (rest r : Ordering) → MatchOrdering r (255 < x) (255 ≡ x) (x < 255) → x < 256 → is_lt rest ≡ false → is_lt (ordering_then r rest) ≡ false
fulls_next x rest Less is lt e = absurd (omega (arith, is, lt))
fulls_next x rest Equal is lt e = e
fulls_next x rest Greater is lt e = refl

fulls_last : (n : ℕ) (xs : List ℕ) → length xs ≡ n → ((i : ℕ) → slice_index xs i < 256) → is_lt (slice_cmp nat_cmp (replicate n 255) xs) ≡ false
fulls_last zero [] e below = refl
fulls_last zero (x ∷ xs) e below = absurd (omega (arith, e))
fulls_last (suc n) [] e below = absurd (omega (arith, e))
fulls_last (suc n) (x ∷ xs) e below = fulls_next x (slice_cmp nat_cmp (replicate n 255) xs) (nat_cmp 255 x) (ranked 255 x (nat_cmp 255 x) refl) (below 0) (fulls_last n xs (omega (arith, e)) (λ i. below (suc i)))

-- up to the greatest name of a byte
upto_byte : (byte d : ℕ) (ds : List ℕ) (x : ℕ) → length ds ≡ 15 → ((i : ℕ) → slice_index ds i < 256) → x < 65536
    → not (is_lt (ordering_then (ordering_then (nat_cmp byte d) (slice_cmp nat_cmp (replicate 15 255) ds)) (nat_cmp 65535 x))) ≡ nat_le d byte
upto_byte byte d ds x e below lt = step (nat_cmp byte d) (ranked byte d (nat_cmp byte d) refl)
  where
    step : (r : Ordering) → MatchOrdering r (byte < d) (byte ≡ d) (d < byte) → not (is_lt (ordering_then (ordering_then r (slice_cmp nat_cmp (replicate 15 255) ds)) (nat_cmp 65535 x))) ≡ nat_le d byte
    step Less is = sym (grind (arith, nat_tests))
    step Equal is = ap not (after_or (slice_cmp nat_cmp (replicate 15 255) ds) x lt (fulls_last 15 ds e below)) ∙ sym (grind (arith, nat_tests))
    step Greater is = sym (grind (arith, nat_tests))

-- a name lies between the least of one byte and the greatest of another exactly where its byte does
pub in_bytes : (low high : ℕ) (id : PoolId) → IsName id → range_contains id_cmp (Included (least_of low)) (Included (greatest_of high)) id ≡ nat_le low (byte_of id) && nat_le (byte_of id) high
in_bytes low high id name = step id.digest name.digest name.bytes
  where
    step : (digest : List ℕ) → length digest ≡ 16 → ((i : ℕ) → slice_index digest i < 256)
        → is_le (ordering_then (slice_cmp nat_cmp (low ∷ replicate 15 0) digest) (nat_cmp 0 id.extension))
        && not (is_lt (ordering_then (slice_cmp nat_cmp (high ∷ replicate 15 255) digest) (nat_cmp 65535 id.extension)))
        ≡ nat_le low (slice_index digest 0) && nat_le (slice_index digest 0) high
    step [] e below = absurd (omega (arith, e))
    step (d ∷ ds) e below =
        let long : length ds ≡ 15 = omega (arith, e) in
        λ i. from_byte low d ds id.extension long i && upto_byte high d ds id.extension long (λ k. below (suc k)) name.extension i

none_there : (b : Bool) → ◌≡◌ {A = Option Slot} (cond b None None) None
none_there true = refl
none_there false = refl

-- what a look-up finds among the names of some bytes
pub found_in_bytes : (m : BTreeMap PoolId Slot) (low high : ℕ) (id : PoolId) → AreNames (slots_in m)
    → lookup (λ k. is_eq (id_cmp id k)) (entries_between id_cmp (Included (least_of low)) (Included (greatest_of high)) m.entries)
    ≡ cond (nat_le low (byte_of id) && nat_le (byte_of id) high) (slots_in m id) None
found_in_bytes m low high id names = step (slots_in m id) refl
  where
    step : (slot : Option Slot) → slots_in m id ≡ slot
        → lookup (λ k. is_eq (id_cmp id k)) (entries_between id_cmp (Included (least_of low)) (Included (greatest_of high)) m.entries) ≡ cond (nat_le low (byte_of id) && nat_le (byte_of id) high) (slots_in m id) None
    step None is =
        found_kept (range_contains id_cmp (Included (least_of low)) (Included (greatest_of high))) id (range_contains id_cmp (Included (least_of low)) (Included (greatest_of high)) id) m.entries refl
        ∙ ap (λ (s : Option Slot). cond (range_contains id_cmp (Included (least_of low)) (Included (greatest_of high)) id) s None) is
        ∙ none_there _ ∙ sym (none_there _) ∙ ap (λ (s : Option Slot). cond (nat_le low (byte_of id) && nat_le (byte_of id) high) s None) (sym is)
    step (Some slot) is =
        found_kept (range_contains id_cmp (Included (least_of low)) (Included (greatest_of high))) id (nat_le low (byte_of id) && nat_le (byte_of id) high) m.entries
        (in_bytes low high id (names id (ap is_some is)))

-- the least name of a byte isn't behind the greatest of one that isn't before it
pub is_forward : (first last : ℕ) → first ≤ last → is_gt (id_cmp (least_of first) (greatest_of last)) ≡ false
is_forward first last le = step (nat_cmp first last) (ranked first last (nat_cmp first last) refl)
  where
    step : (r : Ordering) → MatchOrdering r (first < last) (first ≡ last) (last < first)
        → is_gt (ordering_then (ordering_then r (slice_cmp nat_cmp (replicate 15 0) (replicate 15 255))) (nat_cmp 0 65535)) ≡ false
    step Less is = refl
    step Equal is = refl
    step Greater is = absurd (omega (arith, le, is))
