-- Slots over slots, and the items that they give.
use Rattle.std.proofs.Common.{◌≡◌, ◌<◌, ℕ, Bool, true, false, cond, ◌&&◌, not, List, [], ◌∷◌, Option, Some, None, is_some, nat_le, ◌==◌, refl, sym, ap, ◌∙◌, subst, inl, inr, arith}
use Rattle.std.specs.declared.cmp.Ordering.{Ordering}
use Rattle.std.specs.declared.cmp.Ordering.TheVariants.{Less, Equal, Greater}
use Rattle.std.specs.declared.ops.Bound.TheVariants.{Included}
use Rattle.std.specs.Ordering.{is_eq, is_gt, is_lt, is_le, ordering_reverse}
use Rattle.std.specs.List.{AllByRecursion}
use Rattle.std.specs.List.Sorted.{IsStrictlySortedBy}
use Rattle.std.specs.Map.{lookup, keys_of}
use Rattle.std.specs.BTreeMap.{BTreeMap}
use Rattle.std.specs.BTreeMap.Range.{IsEntryInRange, IsRangeOf, entries_between, range_contains}
use Rattle.std.proofs.lemmas.Bool.{false≢true}
use Rattle.std.proofs.lemmas.List.Elements.{recursion_from_All}
use Rattle.std.proofs.lemmas.Bool.Decides.{nat_tests}
use Rattle.std.specs.Cmp.{first_so, second_so}
use borrow.Author.Tests.{eq-eqb}
use Rattle.disk_trait.specs.declared.ids.PoolId.{PoolId}
use Rattle.intent_journal.specs.ChangesLaws.{either}
use Rattle.pool_index.specs.declared.item.IndexItem.{IndexItem}
use Rattle.pool_index.specs.Items.{id_cmp, is_same_id, byte_of, is_under}
use Rattle.pool_index.specs.ItemLaws.{id_total}
use Rattle.pool_changes.specs.declared.slot.Slot.{Slot}
use Rattle.pool_changes.specs.declared.slot.Slot.TheVariants.{Live, Staged, Doomed}
use Rattle.pool_changes.specs.declared.slot.Turn.{Turn}
use Rattle.pool_changes.specs.Slots.{Slots, slots_in, with_slot, is_given, size_of, one_id, least_of, greatest_of}
use Rattle.pool_changes.specs.SlotsLaws.{same_id, equal_of}
use Rattle.pool_changes.specs.Kept.{IsSame, IsSet}
use Rattle.pool_changes.specs.Named.{IsName, AreNames, AreSized}
use Rattle.pool_changes.specs.Relisted.{turned}
use Rattle.pool_changes.specs.RelistedLaws.{turn_none, turned_given}
use Rattle.pool_changes.specs.Listed.{item_of, index_of}
use Rattle.pool_changes.specs.Written.{IsCalled}
use Rattle.pool_changes.specs.Writing.{slot_or, layered, IsOver, AreUnder, AreAlikeUnder}
use Rattle.pool_changes.proofs.Picking.{picked, found, found_picked, rising_picked, each_picked, item_at_id}
use Rattle.pool_changes.proofs.Ranging.{in_bytes, found_in_bytes, sorted_kept}

-- ---- one name turned

pub layered_sized : (under over : Slots) → AreSized under → AreSized over → AreSized (layered under over)
layered_sized under over low high id = step (over id) (high id)
  where
    step : (slot : Option Slot) → (is_given slot ≡ true → 0 < size_of slot) → is_given (slot_or slot (under id)) ≡ true → 0 < size_of (slot_or slot (under id))
    step None is given = low id given
    step (Some slot) is given = is given

pub sized_turned : (turn : Turn) (slot result : Slot) (under over : Slots) (id : PoolId) → Some slot ≡ layered under over id → Some result ≡ turned turn (Some slot) → AreSized under → AreSized over
    → is_given (Some result) ≡ true → 0 < size_of (Some result)
sized_turned turn slot result under over id is turned_is low high given =
    let was = turned_given turn (Some slot) (sym (ap is_given turned_is) ∙ given) in
    let before : 0 < size_of (Some slot) = subst (λ (s : Option Slot). is_given s ≡ true → 0 < size_of s) (sym is) (layered_sized under over low high id) was.0 in
    subst (λ (n : ℕ). 0 < n) (sym (ap size_of turned_is ∙ was.1)) before

module _ (turn : Turn) (under old new : Slots) (id : PoolId) (slot result : Slot) (is : Some slot ≡ layered under old id) (turned_is : Some result ≡ turned turn (Some slot)) (set : IsSet old new id (Some result)) where
  pub turned_over : IsSame (with_slot (layered under old) id (turned turn (layered under old id))) (layered under new)
  turned_over asked = elim (either (is_same_id asked id)) [
    | inl same ↦
        let here : new asked ≡ Some result = set asked ∙ rw same refl in
        ap (λ (s : Option Slot). slot_or s (under asked)) here ∙ turned_is ∙ ap (turned turn) is ∙ rw same refl
    | inr other ↦
        let here : new asked ≡ old asked = set asked ∙ rw other refl in
        ap (λ (s : Option Slot). slot_or s (under asked)) here ∙ rw other refl
  ]

  pub still_over : IsOver under old → IsOver under new
  still_over before asked some = elim (either (is_same_id asked id)) [
    | inl same ↦ ap (λ (x : PoolId). is_some (under x)) (one_id asked id same) ∙ step (old id) (before id) (sym (ap is_some is))
    | inr other ↦
        let here : new asked ≡ old asked = set asked ∙ rw other refl in
        before asked (sym (ap is_some here) ∙ some)
  ]
    where
      step : (s : Option Slot) → (is_some s ≡ true → is_some (under id) ≡ true) → is_some (slot_or s (under id)) ≡ true → is_some (under id) ≡ true
      step None f e = e
      step (Some s) f e = f refl

pub turned_nothing : (turn : Turn) (slots : Slots) (id : PoolId) → None ≡ slots id → IsSame (with_slot slots id (turned turn (slots id))) slots
turned_nothing turn slots id none = turn_none turn slots id (sym none)

-- nothing over
pub nothing_over : (under over : Slots) → ((id : PoolId) → over id ≡ None) → IsSame under (layered under over)
nothing_over under over none id = ap (λ (s : Option Slot). slot_or s (under id)) (none id)

pub none_over : (under over : Slots) → ((id : PoolId) → over id ≡ None) → IsOver under over
none_over under over none id some = absurd (false≢true (sym (ap is_some (none id)) ∙ some))

-- ---- the entries of a byte

-- an entry of the byte, with its slot
abbrev pub IsEntry : BTreeMap PoolId Slot → ℕ → PoolId × Slot → Type 0
IsEntry m byte e = (slots_in m e.0 ≡ Some e.1) × (byte_of e.0 ≡ byte)

le_from : (r : Ordering) → is_gt r ≡ false → is_le r ≡ true
le_from Less e = refl
le_from Equal e = refl
le_from Greater e = absurd (false≢true (sym e))

lt_from : (r : Ordering) → is_gt (ordering_reverse r) ≡ false → not (is_lt r) ≡ true
lt_from Less e = absurd (false≢true (sym e))
lt_from Equal e = refl
lt_from Greater e = refl

both_le : (byte x : ℕ) → nat_le byte x && nat_le x byte ≡ true → x ≡ byte
both_le byte x e =
    let low : nat_le byte x ≡ true = first_so _ _ e in
    let high : nat_le x byte ≡ true = second_so (nat_le byte x) _ e in
    grind (arith, nat_tests)

entry_of : (m : BTreeMap PoolId Slot) (byte : ℕ) → AreNames (slots_in m) → (e : PoolId × Slot) → IsEntryInRange id_cmp (Included (least_of byte)) (Included (greatest_of byte)) m e → IsEntry m byte e
entry_of m byte names e range =
    let name : IsName e.0 = names e.0 (ap is_some range.1) in
    let inside : range_contains id_cmp (Included (least_of byte)) (Included (greatest_of byte)) e.0 ≡ true =
    both_so (le_from _ range.0.0) (lt_from (id_cmp (greatest_of byte) e.0) (sym (ap is_gt (id_total.antisymm e.0 (greatest_of byte))) ∙ range.0.1)) in
    (range.1, both_le byte (byte_of e.0) (sym (in_bytes byte byte e.0 name) ∙ inside))
  where
    both_so : {a b : Bool} → a ≡ true → b ≡ true → a && b ≡ true
    both_so {a} {b} e f = ap (λ (x : Bool). x && b) e ∙ f

-- the entries of a range are those of the byte
pub entries_of : (m : BTreeMap PoolId Slot) (byte : ℕ) (es : List (PoolId × Slot)) → AreNames (slots_in m) → IsRangeOf id_cmp (Included (least_of byte)) (Included (greatest_of byte)) m es → AllByRecursion (IsEntry m byte) es
entries_of m byte es names range = weaker es (recursion_from_All (IsEntryInRange id_cmp (Included (least_of byte)) (Included (greatest_of byte)) m) es range.0)
  where
    weaker : (fs : List (PoolId × Slot)) → AllByRecursion (IsEntryInRange id_cmp (Included (least_of byte)) (Included (greatest_of byte)) m) fs → AllByRecursion (IsEntry m byte) fs
    weaker [] all = tt
    weaker (e ∷ fs) all = (entry_of m byte names e all.0, weaker fs all.1)

here_true : (byte : ℕ) → nat_le byte byte && nat_le byte byte ≡ true
here_true byte =
    let le : nat_le byte byte ≡ true = grind (arith, nat_tests) in
    ap (λ (b : Bool). b && nat_le byte byte) le ∙ le

-- what a look-up finds among the entries of a byte, of a name of the byte
pub found_of_byte : (m : BTreeMap PoolId Slot) (byte : ℕ) (id : PoolId) → AreNames (slots_in m) → byte_of id ≡ byte
    → lookup (λ k. is_eq (id_cmp id k)) (entries_between id_cmp (Included (least_of byte)) (Included (greatest_of byte)) m.entries) ≡ slots_in m id
found_of_byte m byte id names here =
    found_in_bytes m byte byte id names
    ∙ ap (λ (b : Bool). cond b (slots_in m id) None) (ap (λ (x : ℕ). nat_le byte x && nat_le x byte) here ∙ here_true byte)

-- ---- the items of a byte

own_item : (id : PoolId) (slot : Option Slot) (item : IndexItem) → item_of id slot ≡ Some item → item.id ≡ id
own_item id None item e = absurd cc
own_item id (Some (Live size mark claims)) item e = cc
own_item id (Some (Staged size claims)) item e = absurd cc
own_item id (Some Doomed) item e = absurd cc

sized_item : (id : PoolId) (slot : Option Slot) (item : IndexItem) → (is_given slot ≡ true → 0 < size_of slot) → item_of id slot ≡ Some item → 0 < item.size
sized_item id None item sized e = absurd cc
sized_item id (Some (Live size mark claims)) item sized e = let same : size ≡ item.size = cc in subst (λ (n : ℕ). 0 < n) same (sized refl)
sized_item id (Some (Staged size claims)) item sized e = absurd cc
sized_item id (Some Doomed) item sized e = absurd cc

eqb_same : (a b : ℕ) → a ≡ b → (a == b) ≡ true
eqb_same a b e = eq-eqb a b e

-- the items that were picked of a byte
pub items_under : (names over : BTreeMap PoolId Slot) (byte : ℕ) (entries : List (PoolId × Slot)) → AreNames (slots_in names) → AreSized (slots_in names) → AreSized (slots_in over) → IsOver (slots_in names) (slots_in over)
    → entries ≡ entries_between id_cmp (Included (least_of byte)) (Included (greatest_of byte)) names.entries → IsStrictlySortedBy id_cmp (keys_of names.entries)
    → IsRangeOf id_cmp (Included (least_of byte)) (Included (greatest_of byte)) names entries
    → AreUnder byte (index_of (layered (slots_in names) (slots_in over))) (picked (λ id slot. item_of id (layered (slots_in names) (slots_in over) id)) entries)
items_under names over byte entries good low high lies is sorted range = record {
  rising = rising_picked (λ item. item.id) pick_of (λ id slot item e. own_item id (now id) item e) entries sorted_entries;
  under = each_picked pick_of (IsEntry names byte) (λ item. is_under (Some byte) item.id ≡ true)
      (λ e item entry picked_is. eqb_same (byte_of item.id) byte (ap byte_of (own_item e.0 (now e.0) item picked_is) ∙ entry.1)) entries all;
  sized = each_picked pick_of (IsEntry names byte) (λ item. 0 < item.size)
      (λ e item entry picked_is. sized_item e.0 (now e.0) item (layered_sized (slots_in names) (slots_in over) low high e.0) picked_is) entries all;
  each = λ id here. sym (item_at_id (picked pick_of entries) id ∙ found_picked (λ item. item.id) pick_of (λ k slot item e. own_item k (now k) item e) entries id sorted_entries
      ∙ ap (λ (s : Option Slot). found pick_of id s) (ap (lookup (λ k. is_eq (id_cmp id k))) is ∙ found_of_byte names byte id good here) ∙ at_name id (slots_in names id) refl);
}
  where
    now : Slots
    now = layered (slots_in names) (slots_in over)

    pick_of : PoolId → Slot → Option IndexItem
    pick_of id slot = item_of id (layered (slots_in names) (slots_in over) id)

    sorted_entries : IsStrictlySortedBy id_cmp (keys_of entries)
    sorted_entries = subst (λ (es : List (PoolId × Slot)). IsStrictlySortedBy id_cmp (keys_of es)) (sym is) (sorted_kept _ names.entries sorted)

    all : AllByRecursion (IsEntry names byte) entries
    all = entries_of names byte entries good range

    nothing : (id : PoolId) → slots_in names id ≡ None → (s : Option Slot) → slots_in over id ≡ s → item_of id (slot_or s (slots_in names id)) ≡ None
    nothing id none None e = ap (item_of id) none
    nothing id none (Some s) e = absurd (false≢true (sym (ap is_some none) ∙ lies id (ap is_some e)))

    at_name : (id : PoolId) (slot : Option Slot) → slots_in names id ≡ slot → found pick_of id slot ≡ item_of id (now id)
    at_name id None e = sym (nothing id e (slots_in over id) refl)
    at_name id (Some slot) e = refl

-- ---- the items that change

-- the entries say the same to the index as the slots below
abbrev pub AreAlikeItems : Slots → List (PoolId × Slot) → Type 0
AreAlikeItems under es = AllByRecursion (λ e. item_of e.0 (under e.0) ≡ item_of e.0 (Some e.1)) es

alike_found : (under : Slots) (es : List (PoolId × Slot)) (id : PoolId) (slot : Slot) → AreAlikeItems under es → lookup (λ k. is_eq (id_cmp id k)) es ≡ Some slot → item_of id (under id) ≡ item_of id (Some slot)
alike_found under [] id slot all is = absurd cc
alike_found under (e ∷ es) id slot all is = step (is_eq (id_cmp id e.0)) refl is (alike_found under es id slot all.1)
  where
    step : (b : Bool) → is_eq (id_cmp id e.0) ≡ b → cond b (Some e.1) (lookup (λ k. is_eq (id_cmp id k)) es) ≡ Some slot
        → (lookup (λ k. is_eq (id_cmp id k)) es ≡ Some slot → item_of id (under id) ≡ item_of id (Some slot)) → item_of id (under id) ≡ item_of id (Some slot)
    step true same here rest =
        let one : id ≡ e.0 = same_id id e.0 (equal_of _ same) in
        let slots : e.1 ≡ slot = cc in
        ap (λ (k : PoolId). item_of k (under k)) one ∙ all.0 ∙ ap (λ (k : PoolId). item_of k (Some e.1)) (sym one) ∙ ap (λ (s : Slot). item_of id (Some s)) slots
    step false same here rest = rest here

pub alike_under : (names over : BTreeMap PoolId Slot) (byte : ℕ) → AreNames (slots_in over) → AreAlikeItems (slots_in names) (entries_between id_cmp (Included (least_of byte)) (Included (greatest_of byte)) over.entries)
    → AreAlikeUnder byte (index_of (slots_in names)) (index_of (layered (slots_in names) (slots_in over)))
alike_under names over byte good all id here = step (slots_in over id) refl
  where
    step : (slot : Option Slot) → slots_in over id ≡ slot → item_of id (slots_in names id) ≡ item_of id (slot_or (slots_in over id) (slots_in names id))
    step None is = sym (ap (λ (s : Option Slot). item_of id (slot_or s (slots_in names id))) is)
    step (Some slot) is =
        alike_found (slots_in names) (entries_between id_cmp (Included (least_of byte)) (Included (greatest_of byte)) over.entries) id slot all (found_of_byte over byte id good here ∙ is)
        ∙ sym (ap (λ (s : Option Slot). item_of id (slot_or s (slots_in names id))) is)

pub called_by : (names over : BTreeMap PoolId Slot) (byte : ℕ) (id : PoolId) (slot : Slot) → IsEntry over byte (id, slot) → (item_of id (Some slot) ≡ item_of id (slots_in names id) → ⊥)
    → IsCalled false (index_of (slots_in names)) (index_of (layered (slots_in names) (slots_in over))) byte
called_by names over byte id slot entry other = record {
  id = id;
  under = entry.1;
  calls = λ e. other (sym (e ∙ ap (λ (s : Option Slot). item_of id (slot_or s (slots_in names id))) entry.0));
}

-- the digests of listed names begin with bytes
pub within_bytes : (names over : BTreeMap PoolId Slot) → AreNames (slots_in names) → IsOver (slots_in names) (slots_in over) → (id : PoolId) → is_some (index_of (layered (slots_in names) (slots_in over)) id) ≡ true → byte_of id < 256
within_bytes names over good lies id some = (good id (step (slots_in over id) refl some)).bytes 0
  where
    no_item : (slot : Option Slot) → slot ≡ None → is_some (item_of id slot) ≡ true → ⊥
    no_item slot e some = false≢true (sym (ap (λ (s : Option Slot). is_some (item_of id s)) e) ∙ some)

    used : (slot : Option Slot) → is_some (item_of id slot) ≡ true → is_some slot ≡ true
    used None e = absurd (false≢true e)
    used (Some slot) e = refl

    step : (slot : Option Slot) → slots_in over id ≡ slot → is_some (item_of id (slot_or (slots_in over id) (slots_in names id))) ≡ true → is_some (slots_in names id) ≡ true
    step None is some = used (slots_in names id) (sym (ap (λ (s : Option Slot). is_some (item_of id (slot_or s (slots_in names id)))) is) ∙ some)
    step (Some slot) is some = lies id (ap is_some is)

-- ---- what lies over used names, with one more of them

pub still_used : (under old new : Slots) (id : PoolId) (slot : Slot) (over : Option Slot) → Some slot ≡ under id → IsSet old new id over → IsOver under old → IsOver under new
still_used under old new id slot over is set before asked some = elim (either (is_same_id asked id)) [
  | inl same ↦ ap (λ (x : PoolId). is_some (under x)) (one_id asked id same) ∙ sym (ap is_some is)
  | inr other ↦
      let here : new asked ≡ old asked = set asked ∙ rw other refl in
      before asked (sym (ap is_some here) ∙ some)
]
