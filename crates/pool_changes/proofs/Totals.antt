-- The contents of a bucket, and the totals.
use Rattle.std.proofs.Common.{◌≡◌, ◌<◌, ◌≤◌, ℕ, suc, ◌+◌, ◌-◌, ◌*◌, ◌/◌, ◌^◌, min, Bool, true, false, cond, ◌&&◌, List, [], ◌∷◌, length, Option, Some, None, is_some, nat_le, if◌then◌else◌, ◌==◌, refl, sym, ap, ◌∙◌, subst, arith}
use Rattle.std.specs.declared.ops.Bound.TheVariants.{Included}
use Rattle.std.specs.List.Sorted.{IsStrictlySortedBy}
use Rattle.std.specs.Map.{keys_of}
use Rattle.std.specs.BTreeMap.{BTreeMap}
use Rattle.std.specs.BTreeMap.Range.{entries_between}
use Rattle.std.specs.Cmp.{both_ways, first_so, second_so}
use Rattle.std.proofs.lemmas.Bool.Decides.{nat_tests}
use borrow.Author.Tests.{eqb-true, eq-eqb}
use Rattle.disk_trait.specs.declared.ids.PoolId.{PoolId}
use Rattle.pool_index.specs.declared.item.IndexItem.{IndexItem}
use Rattle.pool_index.specs.Items.{id_cmp, byte_of}
use Rattle.pool_changes.specs.declared.slot.Slot.{Slot}
use Rattle.pool_changes.specs.declared.slot.Slot.TheVariants.{Live, Staged, Doomed}
use Rattle.pool_changes.specs.declared.listing.BucketItem.{BucketItem}
use Rattle.pool_changes.specs.declared.listing.PoolStats.{PoolStats}
use Rattle.pool_changes.specs.Slots.{Slots, slots_in, least_of, greatest_of}
use Rattle.pool_changes.specs.Named.{AreNames}
use Rattle.pool_changes.specs.Listed.{item_of, bucket_item_of, bytes_of, marks_of, IsBucketOf, IsStatsOf, with_slot_stats}
use Rattle.pool_changes.proofs.Picking.{picked, put_first, found, found_picked, rising_picked, item_at_id, bucket_item_at_id}
use Rattle.pool_changes.proofs.Ranging.{found_in_bytes, sorted_kept}

-- ---- buckets

abbrev pub bucket_pick : PoolId → Slot → Option BucketItem
bucket_pick id slot = bucket_item_of id (Some slot)

own_bucket : (id : PoolId) (slot : Slot) (item : BucketItem) → bucket_item_of id (Some slot) ≡ Some item → item.id ≡ id
own_bucket id (Live size mark claims) item e = cc
own_bucket id (Staged size claims) item e = absurd cc
own_bucket id Doomed item e = absurd cc

-- the bytes from 16 times a bucket on are those that give it when divided by 16
bucket_test : (bucket byte : ℕ) → nat_le (bucket * 16) byte && nat_le byte (bucket * 16 + 15) ≡ (byte / 16 == bucket)
bucket_test bucket byte = both_ways _ _ there back
  where
    there : nat_le (bucket * 16) byte && nat_le byte (bucket * 16 + 15) ≡ true → (byte / 16 == bucket) ≡ true
    there e =
        let low : bucket * 16 ≤ byte = le_of (bucket * 16) byte (first_so _ _ e) in
        let high : byte ≤ bucket * 16 + 15 = le_of byte (bucket * 16 + 15) (second_so (nat_le (bucket * 16) byte) _ e) in
        let same : byte / 16 ≡ bucket = omega (arith, low, high) in
        eq-eqb (byte / 16) bucket same
      where
        le_of : (a b : ℕ) → nat_le a b ≡ true → a ≤ b
        le_of a b e = grind (arith, nat_tests)

    back : (byte / 16 == bucket) ≡ true → nat_le (bucket * 16) byte && nat_le byte (bucket * 16 + 15) ≡ true
    back e =
        let same : byte / 16 ≡ bucket = eqb-true (byte / 16) bucket e in
        let low : bucket * 16 ≤ byte = omega (arith, same) in
        let high : byte ≤ bucket * 16 + 15 = omega (arith, same) in
        both (le_so (bucket * 16) byte low) (le_so byte (bucket * 16 + 15) high)
      where
        le_so : (a b : ℕ) → a ≤ b → nat_le a b ≡ true
        le_so a b le = grind (arith, nat_tests)

        both : {a b : Bool} → a ≡ true → b ≡ true → a && b ≡ true
        both {a} {b} e f = ap (λ (x : Bool). x && b) e ∙ f

found_bucket : (id : PoolId) (slot : Option Slot) → found bucket_pick id slot ≡ bucket_item_of id slot
found_bucket id None = refl
found_bucket id (Some slot) = refl

found_cond : (id : PoolId) (b : Bool) (slot : Option Slot) → found bucket_pick id (cond b slot None) ≡ (if b then bucket_item_of id slot else None)
found_cond id true slot = found_bucket id slot
found_cond id false slot = refl

pub bucket_of_names : (names : BTreeMap PoolId Slot) (bucket : ℕ) (items : List BucketItem) → AreNames (slots_in names) → IsStrictlySortedBy id_cmp (keys_of names.entries)
    → items ≡ picked bucket_pick (entries_between id_cmp (Included (least_of (bucket * 16))) (Included (greatest_of (bucket * 16 + 15))) names.entries) → IsBucketOf (slots_in names) bucket items
bucket_of_names names bucket items good sorted is = subst (λ (l : List BucketItem). IsBucketOf (slots_in names) bucket l) (sym is) (record {
  rising = rising_picked (λ item. item.id) bucket_pick own_bucket entries sorted_entries;
  each = λ id.
      bucket_item_at_id (picked bucket_pick entries) id ∙ found_picked (λ item. item.id) bucket_pick own_bucket entries id sorted_entries
      ∙ ap (found bucket_pick id) (found_in_bytes names (bucket * 16) (bucket * 16 + 15) id good)
      ∙ found_cond id _ (slots_in names id) ∙ ap (λ (b : Bool). if b then bucket_item_of id (slots_in names id) else None) (bucket_test bucket (byte_of id));
})
  where
    entries : List (PoolId × Slot)
    entries = entries_between id_cmp (Included (least_of (bucket * 16))) (Included (greatest_of (bucket * 16 + 15))) names.entries

    sorted_entries : IsStrictlySortedBy id_cmp (keys_of (entries_between id_cmp (Included (least_of (bucket * 16))) (Included (greatest_of (bucket * 16 + 15))) names.entries))
    sorted_entries = sorted_kept _ names.entries sorted

-- no byte divided by 16 is 16 or more
pub no_bucket : (slots : Slots) (bucket : ℕ) → AreNames slots → 16 ≤ bucket → IsBucketOf slots bucket []
unfolding IsStrictlySortedBy
no_bucket slots bucket good le = record { rising = tt; each = λ id. step id (slots id) refl }
  where
    nothing : (b : Bool) → ◌≡◌ {A = Option BucketItem} None (if b then None else None)
    nothing true = refl
    nothing false = refl

    high : (x : ℕ) → x < 256 → (x / 16 == bucket) ≡ false
    high x lt = other (x / 16 == bucket) (λ e. let same : x / 16 ≡ bucket = eqb-true (x / 16) bucket e in absurd (omega (arith, lt, le, same)))
      where
        other : (b : Bool) → (b ≡ true → ⊥) → b ≡ false
        other true f = absurd (f refl)
        other false f = refl

    step : (id : PoolId) (slot : Option Slot) → slots id ≡ slot → None ≡ (if byte_of id / 16 == bucket then bucket_item_of id (slots id) else None)
    step id None is = nothing (byte_of id / 16 == bucket) ∙ ap (λ (s : Option Slot). if byte_of id / 16 == bucket then bucket_item_of id s else None) (sym is)
    step id (Some slot) is = ap (λ (b : Bool). if b then bucket_item_of id (slots id) else None) (sym (high (byte_of id) ((good id (ap is_some is)).bytes 0)))

-- ---- totals

abbrev pub item_pick : PoolId → Slot → Option IndexItem
item_pick id slot = item_of id (Some slot)

own_item : (id : PoolId) (slot : Slot) (item : IndexItem) → item_of id (Some slot) ≡ Some item → item.id ≡ id
own_item id (Live size mark claims) item e = cc
own_item id (Staged size claims) item e = absurd cc
own_item id Doomed item e = absurd cc

-- the totals of what was gone through, and of what is left
pub record AreTotalsWith (stats : PoolStats) (left all : List IndexItem) : Type 0 where
  pub files : stats.files + length left ≡ length all
  pub bytes : min (stats.bytes + bytes_of left) (2 ^ 64 - 1) ≡ min (bytes_of all) (2 ^ 64 - 1)
  pub marked : stats.marked + marks_of left ≡ marks_of all
  pub few : stats.marked ≤ stats.files
  pub whole : stats.bytes ≤ 2 ^ 64 - 1

pub totals_start : (all : List IndexItem) → AreTotalsWith (record { files = 0; bytes = 0; marked = 0 }) all all
totals_start all = record { files = omega arith; bytes = ap (λ (n : ℕ). min n (2 ^ 64 - 1)) (zero_plus (bytes_of all)); marked = omega arith; few = omega arith; whole = omega arith }
  where
    zero_plus : (n : ℕ) → 0 + n ≡ n
    zero_plus n = omega arith

pub totals_next : (stats next : PoolStats) (entries rest : List (PoolId × Slot)) (all : List IndexItem) (key : PoolId) (slot : Slot) → AreTotalsWith stats (picked item_pick entries) all → entries ≡ (key, slot) ∷ rest → next ≡ with_slot_stats stats slot
    → AreTotalsWith next (picked item_pick rest) all
totals_next stats next entries rest all key slot before is made =
    subst (λ (s : PoolStats). AreTotalsWith s (picked item_pick rest) all) (sym made) (step slot (subst (λ (es : List (PoolId × Slot)). AreTotalsWith stats (picked item_pick es) all) is before))
  where
    saturated : (a b c m : ℕ) → min (min (a + b) m + c) m ≡ min (a + (b + c)) m
    saturated a b c m = omega arith

    mark_le : (mark : Bool) → (if mark then 1 else 0) ≤ 1
    mark_le true = omega arith
    mark_le false = omega arith

    step : (s : Slot) → AreTotalsWith stats (put_first (item_of key (Some s)) (picked item_pick rest)) all → AreTotalsWith (with_slot_stats stats s) (picked item_pick rest) all
    step (Live size mark claims) b = record {
      files = omega (arith, b.files);
      bytes = saturated stats.bytes size (bytes_of (picked item_pick rest)) (2 ^ 64 - 1) ∙ b.bytes;
      marked = omega (arith, b.marked);
      few = omega (arith, b.few, mark_le mark);
      whole = omega arith;
    }
    step (Staged size claims) b = b
    step Doomed b = b

pub totals_end : (names : BTreeMap PoolId Slot) (stats : PoolStats) (entries : List (PoolId × Slot)) → IsStrictlySortedBy id_cmp (keys_of names.entries) → AreTotalsWith stats (picked item_pick entries) (picked item_pick names.entries) → entries ≡ []
    → IsStatsOf (slots_in names) stats
totals_end names stats entries sorted before is = record {
  items = picked item_pick names.entries;
  rising = rising_picked (λ item. item.id) item_pick own_item names.entries sorted;
  each = λ id. item_at_id (picked item_pick names.entries) id ∙ found_picked (λ item. item.id) item_pick own_item names.entries id sorted ∙ found_item id (slots_in names id);
  files = let n = last.files in omega (arith, n);
  bytes = whole stats.bytes last.whole ∙ last.bytes;
  marked = let n = last.marked in omega (arith, n);
}
  where
    last : AreTotalsWith stats [] (picked item_pick names.entries)
    last = subst (λ (es : List (PoolId × Slot)). AreTotalsWith stats (picked item_pick es) (picked item_pick names.entries)) is before

    whole : (n : ℕ) → n ≤ 2 ^ 64 - 1 → n ≡ min (n + 0) (2 ^ 64 - 1)
    whole n le = omega (arith, le)

    found_item : (id : PoolId) (slot : Option Slot) → found item_pick id slot ≡ item_of id slot
    found_item id None = refl
    found_item id (Some slot) = refl

-- no more is picked than there are entries
picked_few : (es : List (PoolId × Slot)) → length (picked item_pick es) ≤ length es
picked_few [] = omega arith
picked_few (e ∷ es) = step (item_of e.0 (Some e.1)) (picked_few es)
  where
    step : (p : Option IndexItem) → length (picked item_pick es) ≤ length es → length (put_first p (picked item_pick es)) ≤ suc (length es)
    step None le = omega (arith, le)
    step (Some x) le = omega (arith, le)

pub totals_few : (names : BTreeMap PoolId Slot) (stats : PoolStats) (left : List IndexItem) → length names.entries < 2 ^ 63 → AreTotalsWith stats left (picked item_pick names.entries) → stats.files < 2 ^ 63
totals_few names stats left few before = let le : length (picked item_pick names.entries) ≤ length names.entries = picked_few names.entries in omega (arith, before.files, le, few)
