-- Laws of the cleaning of a bucket.
--     cleaning_after      the names behind the change of the wanted ones are the cleaned ones
--     live_wanted, unclaimed_wanted      what a change asks of its names
use Rattle.std.specs.Prelude.{◌≡◌, ℕ, ◌/◌, ◌==◌, nat_lt, Bool, true, false, ◌||◌, List, [], ◌∷◌, map, Option, Some, None, if◌then◌else◌}
use Rattle.std.specs.declared.cmp.Ordering.TheVariants.{Less, Equal}
use Rattle.std.specs.List.{AllByRecursion}
use Rattle.std.specs.List.Sorted.{IsStrictlySortedBy}
use Rattle.std.proofs.Common.{inl, inr, refl, sym, ap, ◌∙◌, subst, arith}
use Rattle.std.proofs.lemmas.Bool.{false≢true}
use Rattle.std.proofs.lemmas.Bool.Decides.{nat_tests}
use Rattle.std.proofs.lemmas.Cmp.{tied_itself}
use Rattle.disk_trait.specs.declared.ids.PoolId.{PoolId}
use Rattle.intent_journal.specs.ChangesLaws.{either}
use Rattle.pool_index.specs.Items.{id_cmp, is_same_id, byte_of}
use Rattle.pool_index.specs.ItemLaws.{id_total, one_id}
use Rattle.ref_counts.specs.Numbers.{Items}
use Rattle.pool_changes.specs.declared.slot.Slot.{Slot}
use Rattle.pool_changes.specs.declared.slot.Slot.TheVariants.{Live, Staged, Doomed}
use Rattle.pool_changes.specs.declared.listing.BucketItem.{BucketItem}
use Rattle.pool_changes.specs.declared.index.IndexChange.{IndexChange}
use Rattle.pool_changes.specs.Slots.{Slots, with_slot, is_live, claims_of}
use Rattle.pool_changes.specs.Relisted.{marked, removed}
use Rattle.pool_changes.specs.Listed.{bucket_item_of, bucket_item_at, IsBucketOf}
use Rattle.pool_changes.specs.Indexed.{relisted_by, after, IsOf, AreLive, AreUnclaimed}
use Rattle.pool_fate.specs.declared.fate.Fate.{Fate}
use Rattle.pool_fate.specs.declared.fate.Fate.TheVariants.{Gains, Loses, Leaves}
use Rattle.ref_counts.specs.Cleaning.{next_mark}
use Rattle.nightly_clean.specs.Cleanings.{is_named, is_protected, is_wanted, wanted_ids, live_as, cleaned_slot, cleaned}
use Rattle.disk_trait.specs.declared.ids.FileId.TheVariants.{Pool}
use Rattle.disk_trait.specs.NamesLaws.{is_same_file-itself}

-- ---- names of a list

is_in : List PoolId → PoolId → Bool
is_in [] asked = false
is_in (id ∷ ids) asked = is_same_id asked id || is_in ids asked

-- each of these names changed, one after the other
turned_all : (Option Slot → Option Slot) → List PoolId → Slots → Slots
turned_all f [] slots = slots
turned_all f (id ∷ ids) slots = turned_all f ids (with_slot slots id (f (slots id)))

-- a change that may come twice
module _ (f : Option Slot → Option Slot) (again : (slot : Option Slot) → f (f slot) ≡ f slot) where
  turned_at : (ids : List PoolId) (slots : Slots) (asked : PoolId)
      → turned_all f ids slots asked ≡ (if is_in ids asked then f (slots asked) else slots asked)
  unfolding is_in turned_all
  turned_at [] slots asked = refl
  turned_at (id ∷ ids) slots asked =
      turned_at ids (with_slot slots id (f (slots id))) asked ∙ step (is_same_id asked id) refl (is_in ids asked)
    where
      step : (b : Bool) → is_same_id asked id ≡ b → (c : Bool)
          → (if c then f (if b then f (slots id) else slots asked) else (if b then f (slots id) else slots asked))
          ≡ (if b || c then f (slots asked) else slots asked)
      step true e true = again (slots id) ∙ ap (λ (x : PoolId). f (slots x)) (sym (one_id asked id e))
      step true e false = ap (λ (x : PoolId). f (slots x)) (sym (one_id asked id e))
      step false e true = refl
      step false e false = refl

-- what a change of the index without new names does
by_removed : (left : List PoolId) (slots : Slots) → relisted_by [] [] [] left slots ≡ turned_all removed left slots
unfolding turned_all
by_removed [] slots = refl
by_removed (id ∷ left) slots = by_removed left (with_slot slots id (removed (slots id)))

by_unmarked : (lost left : List PoolId) (slots : Slots) → relisted_by [] [] lost left slots ≡ turned_all removed left (turned_all (marked false) lost slots)
unfolding turned_all
by_unmarked [] left slots = by_removed left slots
by_unmarked (id ∷ lost) left slots = by_unmarked lost left (with_slot slots id (marked false (slots id)))

by_marked : (gained lost left : List PoolId) (slots : Slots)
    → relisted_by [] gained lost left slots ≡ turned_all removed left (turned_all (marked false) lost (turned_all (marked true) gained slots))
unfolding turned_all
by_marked [] lost left slots = by_unmarked lost left slots
by_marked (id ∷ gained) lost left slots = by_marked gained lost left (with_slot slots id (marked true (slots id)))

marked_again : (mark : Bool) (slot : Option Slot) → marked mark (marked mark slot) ≡ marked mark slot
marked_again mark None = refl
marked_again mark (Some (Live size was claims)) = refl
marked_again mark (Some (Staged size claims)) = refl
marked_again mark (Some Doomed) = refl

removed_again : (slot : Option Slot) → removed (removed slot) ≡ removed slot
removed_again None = refl
removed_again (Some (Live size mark claims)) = refl
removed_again (Some (Staged size claims)) = refl
removed_again (Some Doomed) = refl

-- ---- items in order

abbrev Rising : List BucketItem → Type 0
Rising items = IsStrictlySortedBy id_cmp (map (λ item. item.id) items)

abbrev AreAbove : PoolId → List BucketItem → Type 0
AreAbove id items = AllByRecursion (λ y. id_cmp id y ≡ Less) (map (λ item. item.id) items)

apart : (a b : PoolId) → id_cmp a b ≡ Less → is_same_id a b ≡ false
apart a b less = elim (either (is_same_id a b)) [
  | inl same ↦ absurd (less_equal (sym less ∙ ap (id_cmp a) (sym (one_id a b same)) ∙ tied_itself id_total a))
  | inr other ↦ other
]
  where
    less_equal : Less ≡ Equal → ⊥
    less_equal e = cc

none_below : (id : PoolId) (items : List BucketItem) → AreAbove id items → bucket_item_at items id ≡ None
none_below id [] all = refl
none_below id (item ∷ items) all = rw (apart id item.id all.0) (none_below id items all.1)

-- what holds of each item that is found holds of each item
module _ (Q : PoolId → BucketItem → Type 0) where
  each_found : (items : List BucketItem) → Rising items → ((id : PoolId) (item : BucketItem) → bucket_item_at items id ≡ Some item → Q id item)
      → AllByRecursion (λ item. Q item.id item) items
  unfolding IsStrictlySortedBy
  each_found [] rising holds = tt
  each_found (item ∷ items) rising holds = (holds item.id item here, each_found items rising.1 later)
    where
      here : bucket_item_at (item ∷ items) item.id ≡ Some item
      here = rw (is_same_file-itself (Pool item.id)) refl

      later : (id : PoolId) (x : BucketItem) → bucket_item_at items id ≡ Some x → Q id x
      later id x e = elim (either (is_same_id id item.id)) [
        | inl same ↦ absurd (none_some (sym (ap (bucket_item_at items) (one_id id item.id same) ∙ none_below item.id items rising.0) ∙ e))
        | inr other ↦ holds id x (rw other e)
      ]
        where
          none_some : None ≡ Some x → ⊥
          none_some f = cc

-- ---- the wanted names

-- whether what was found has the fate
abbrev wanted_at : Fate → (BucketItem → Bool) → Option BucketItem → Bool
wanted_at fate protected None = false
wanted_at fate protected (Some item) = is_wanted fate (protected item) item.mark

module _ (fate : Fate) (protected : BucketItem → Bool) where
  none_wanted : (asked : PoolId) (items : List BucketItem) → AreAbove asked items → is_in (wanted_ids fate protected items) asked ≡ false
  unfolding is_in
  none_wanted asked [] all = refl
  none_wanted asked (item ∷ items) all = step (is_wanted fate (protected item) item.mark) (none_wanted asked items all.1)
    where
      step : (w : Bool) → is_in (wanted_ids fate protected items) asked ≡ false
          → is_in (if w then item.id ∷ wanted_ids fate protected items else wanted_ids fate protected items) asked ≡ false
      step true rest = rw (apart asked item.id all.0) rest
      step false rest = rest

  in_wanted : (items : List BucketItem) → Rising items → (asked : PoolId)
      → is_in (wanted_ids fate protected items) asked ≡ wanted_at fate protected (bucket_item_at items asked)
  unfolding is_in IsStrictlySortedBy
  in_wanted [] rising asked = refl
  in_wanted (item ∷ items) rising asked =
      step (is_wanted fate (protected item) item.mark) refl (is_same_id asked item.id) refl (in_wanted items rising.1 asked)
    where
      step : (w : Bool) → is_wanted fate (protected item) item.mark ≡ w → (b : Bool) → is_same_id asked item.id ≡ b
          → is_in (wanted_ids fate protected items) asked ≡ wanted_at fate protected (bucket_item_at items asked)
          → is_in (if w then item.id ∷ wanted_ids fate protected items else wanted_ids fate protected items) asked
          ≡ wanted_at fate protected (if b then Some item else bucket_item_at items asked)
      step true is true e rest = rw e (sym is)
      step true is false e rest = rw e rest
      step false is true e rest =
          none_wanted asked items (subst (λ (x : PoolId). AreAbove x items) (sym (one_id asked item.id e)) rising.0) ∙ sym is
      step false is false e rest = rest

-- ---- what a change asks of its names

live_of : (id : PoolId) (slot : Option Slot) (item : BucketItem) → bucket_item_of id slot ≡ Some item → is_live slot ≡ true
live_of id None item e = cc
live_of id (Some (Live size mark claims)) item e = refl
live_of id (Some (Staged size claims)) item e = cc
live_of id (Some Doomed) item e = cc

unclaimed_of : (id : PoolId) (slot : Option Slot) (item : BucketItem) → bucket_item_of id slot ≡ Some item → item.claimed ≡ false → claims_of slot ≡ 0
unclaimed_of id None item e free = cc
unclaimed_of id (Some (Live size mark claims)) item e free =
    zero_of claims (ap (λ (x : BucketItem). x.claimed) (some_is e) ∙ free)
  where
    some_is : {A : Type 0} {x y : A} → Some x ≡ Some y → x ≡ y
    some_is f = cc

    zero_of : (n : ℕ) → nat_lt 0 n ≡ false → n ≡ 0
    zero_of n f = grind (arith, nat_tests)
unclaimed_of id (Some (Staged size claims)) item e free = cc
unclaimed_of id (Some Doomed) item e free = cc

module _ (slots : Slots) (hosts : List Items) where
  abbrev AreItems : List BucketItem → Type 0
  AreItems items = AllByRecursion (λ item. bucket_item_of item.id (slots item.id) ≡ Some item) items

  live_items : (fate : Fate) (items : List BucketItem) → AreItems items → AreLive slots (wanted_ids fate (is_protected hosts) items)
  live_items fate [] are = tt
  live_items fate (item ∷ items) are = step (is_wanted fate (is_protected hosts item) item.mark) (live_items fate items are.1)
    where
      step : (w : Bool) → AreLive slots (wanted_ids fate (is_protected hosts) items)
          → AreLive slots (if w then item.id ∷ wanted_ids fate (is_protected hosts) items else wanted_ids fate (is_protected hosts) items)
      step true rest = (live_of item.id (slots item.id) item are.0, rest)
      step false rest = rest

  unclaimed_items : (items : List BucketItem) → AreItems items → AreUnclaimed slots (wanted_ids Leaves (is_protected hosts) items)
  unclaimed_items [] are = tt
  unclaimed_items (item ∷ items) are = step (is_wanted Leaves (is_protected hosts item) item.mark) refl (unclaimed_items items are.1)
    where
      free : (claimed named mark : Bool) → is_wanted Leaves (claimed || named) mark ≡ true → claimed ≡ false
      free true named true e = absurd (false≢true e)
      free true named false e = absurd (false≢true e)
      free false named mark e = refl

      step : (w : Bool) → is_wanted Leaves (is_protected hosts item) item.mark ≡ w → AreUnclaimed slots (wanted_ids Leaves (is_protected hosts) items)
          → AreUnclaimed slots (if w then item.id ∷ wanted_ids Leaves (is_protected hosts) items else wanted_ids Leaves (is_protected hosts) items)
      step true is rest = (
        live_of item.id (slots item.id) item are.0,
        unclaimed_of item.id (slots item.id) item are.0 (free item.claimed (is_named hosts item.id) item.mark is),
        rest,
      )
      step false is rest = rest

  -- the items of a bucket are those of live names
  items_of : (bucket : ℕ) (items : List BucketItem) → IsBucketOf slots bucket items → AreItems items
  items_of bucket items of =
      each_found (λ id item. bucket_item_of id (slots id) ≡ Some item) items of.rising
      (λ id item e. chosen (byte_of id / 16 == bucket) id item (sym (of.each id) ∙ e))
    where
      chosen : (b : Bool) (id : PoolId) (item : BucketItem) → (if b then bucket_item_of id (slots id) else None) ≡ Some item
          → bucket_item_of id (slots id) ≡ Some item
      chosen true id item e = e
      chosen false id item e = absurd (none_some e)
        where
          none_some : None ≡ Some item → ⊥
          none_some f = cc

  pub live_wanted : (bucket : ℕ) (fate : Fate) (items : List BucketItem) → IsBucketOf slots bucket items
      → AreLive slots (wanted_ids fate (is_protected hosts) items)
  live_wanted bucket fate items of = live_items fate items (items_of bucket items of)

  pub unclaimed_wanted : (bucket : ℕ) (items : List BucketItem) → IsBucketOf slots bucket items
      → AreUnclaimed slots (wanted_ids Leaves (is_protected hosts) items)
  unclaimed_wanted bucket items of = unclaimed_items items (items_of bucket items of)

  -- ---- the names afterwards

  turned_with : (gains loses leaves : Bool) → Option Slot → Option Slot
  turned_with gains loses leaves slot =
      let gained = if gains then marked true slot else slot in
      let lost = if loses then marked false gained else gained in
      if leaves then removed lost else lost

  -- by what was found of a name
  turned_by : Option BucketItem → Option Slot → Option Slot
  turned_by found slot =
      turned_with (wanted_at Gains (is_protected hosts) found) (wanted_at Loses (is_protected hosts) found) (wanted_at Leaves (is_protected hosts) found) slot

  turned_cleaned : (b : Bool) (id : PoolId) (slot : Option Slot)
      → turned_by (if b then bucket_item_of id slot else None) slot ≡ (if b then cleaned_slot (is_named hosts id) slot else slot)
  unfolding turned_by turned_with
  turned_cleaned false id slot = refl
  turned_cleaned true id None = refl
  turned_cleaned true id (Some (Staged size claims)) = refl
  turned_cleaned true id (Some Doomed) = refl
  turned_cleaned true id (Some (Live size mark claims)) = step (nat_lt 0 claims || is_named hosts id) mark
    where
      step : (p m : Bool) → turned_with (is_wanted Gains p m) (is_wanted Loses p m) (is_wanted Leaves p m) (Some (Live size m claims))
          ≡ live_as size claims (next_mark p m)
      step true true = refl
      step true false = refl
      step false false = refl
      step false true = refl

  pub cleaning_after : (bucket : ℕ) (items : List BucketItem) (change : IndexChange) → IsBucketOf slots bucket items
      → IsOf change [] (wanted_ids Gains (is_protected hosts) items) (wanted_ids Loses (is_protected hosts) items) (wanted_ids Leaves (is_protected hosts) items)
      → (id : PoolId) → after change slots id ≡ cleaned bucket hosts slots id
  unfolding turned_by turned_with
  cleaning_after bucket items change of is id =
      let gained = wanted_ids Gains (is_protected hosts) items in
      let lost = wanted_ids Loses (is_protected hosts) items in
      let left = wanted_ids Leaves (is_protected hosts) items in
      let one : Slots = turned_all (marked true) gained slots in
      let two : Slots = turned_all (marked false) lost one in
      ap (λ (ids : List PoolId). relisted_by ids change.marked.items change.unmarked.items change.removed.items slots id) is.added_are
      ∙ ap (λ (ids : List PoolId). relisted_by [] ids change.unmarked.items change.removed.items slots id) is.marked_are
      ∙ ap (λ (ids : List PoolId). relisted_by [] gained ids change.removed.items slots id) is.unmarked_are
      ∙ ap (λ (ids : List PoolId). relisted_by [] gained lost ids slots id) is.removed_are
      ∙ ap (λ (all : Slots). all id) (by_marked gained lost left slots)
      ∙ turned_at removed removed_again left two id
      ∙ ap (λ (slot : Option Slot). if is_in left id then removed slot else slot)
      (turned_at (marked false) (marked_again false) lost one id
      ∙ ap (λ (slot : Option Slot). if is_in lost id then marked false slot else slot) (turned_at (marked true) (marked_again true) gained slots id))
      ∙ ap (λ (b : Bool). turned_with b (is_in lost id) (is_in left id) (slots id)) (in_wanted Gains (is_protected hosts) items of.rising id)
      ∙ ap (λ (b : Bool). turned_with (wanted_at Gains (is_protected hosts) (bucket_item_at items id)) b (is_in left id) (slots id))
      (in_wanted Loses (is_protected hosts) items of.rising id)
      ∙ ap (λ (b : Bool). turned_with (wanted_at Gains (is_protected hosts) (bucket_item_at items id)) (wanted_at Loses (is_protected hosts) (bucket_item_at items id)) b (slots id))
      (in_wanted Leaves (is_protected hosts) items of.rising id)
      ∙ ap (λ (found : Option BucketItem). turned_by found (slots id)) (of.each id)
      ∙ turned_cleaned (byte_of id / 16 == bucket) id (slots id)
