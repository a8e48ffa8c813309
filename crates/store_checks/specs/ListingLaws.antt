-- Laws of the contents of a part of the pool.
--     part_of_bucket      those of its bucket that are of the part are the names of the part that the index lists
--     picked_part      so they are in what was picked
--     part_listed      they are what the model lists of the part, in an office of which the index tells the pool
use Rattle.std.specs.Prelude.{◌≡◌, ◌==◌, ◌/◌, ℕ, Bool, true, false, cond, List, [], ◌∷◌, map, length, Option, Some, None, Result, Ok, Err, IfOk, option_map, if◌then◌else◌}
use Rattle.std.specs.declared.cmp.Ordering.{Ordering}
use Rattle.std.specs.declared.cmp.Ordering.TheVariants.{Less, Equal, Greater}
use Rattle.std.specs.Ordering.{is_eq, eq_by_cmp}
use Rattle.std.specs.Option.{unwrap_or}
use Rattle.std.specs.FinMap.Entries.{find, where_key, find-where_key}
use Rattle.std.specs.List.{AllByRecursion}
use Rattle.std.specs.List.Sorted.{IsStrictlySortedBy}
use Rattle.std.proofs.Common.{refl, sym, ap, ◌∙◌, subst}
use Rattle.std.proofs.lemmas.Bool.Decides.{Decides-eqb}
use Rattle.std.proofs.lemmas.Cmp.{tied_itself}
use Rattle.disk_trait.specs.declared.ids.PoolId.{PoolId}
use Rattle.disk_trait.specs.declared.ids.FileId.TheVariants.{Pool as PoolFile}
use Rattle.disk_trait.specs.NamesLaws.{is_same_file-itself}
use Rattle.ordered_lists.specs.Order.{IsInOrder, IsBelowAll}
use Rattle.ordered_lists.specs.OrderLaws.{same_in_order, IsInOrder-where_key}
use Rattle.pool_index.specs.declared.item.IndexItem.{IndexItem}
use Rattle.pool_index.specs.Items.{id_cmp, is_same_id, byte_of, item_at, ids_of, AreRising}
use Rattle.pool_index.specs.ItemLaws.{id_total, id_exact, one_id}
use Rattle.pool_changes.specs.declared.listing.BucketItem.{BucketItem}
use Rattle.pool_changes.specs.declared.slot.Slot.{Slot}
use Rattle.pool_changes.specs.declared.slot.Slot.TheVariants.{Live, Staged, Doomed}
use Rattle.pool_changes.specs.Slots.{Slots}
use Rattle.pool_changes.specs.Listed.{item_of, index_of, bucket_item_of, bucket_item_at, IsBucketOf}
use Rattle.office_model.specs.Pool.{Pool, mark_of}
use Rattle.office_model.specs.Ids.{Ids, content_at}
use Rattle.office_model.specs.events.PoolList as PoolListEvent
use Rattle.office_files.specs.Pooled.{IsPool, AreListed}
use Rattle.store_checks.specs.Listing.{pushed, items_of_part, listed_of_part, IsPartOf}

-- ---- the bucket of a part

abbrev item_in : BucketItem → IndexItem
item_in item = record { id = item.id; size = item.size; mark = item.mark }

module _ (part : ℕ) where
  all_of_part : (P : PoolId → Type 0) (items : List BucketItem) → AllByRecursion P (map (λ item. item.id) items)
      → AllByRecursion P (ids_of (items_of_part part items))
  all_of_part P [] all = tt
  all_of_part P (item ∷ items) all = step (byte_of item.id == part) (all_of_part P items all.1)
    where
      step : (is : Bool) → AllByRecursion P (ids_of (items_of_part part items))
          → AllByRecursion P (ids_of (pushed (if is then Some (item_in item) else None) (items_of_part part items)))
      step true rest = (all.0, rest)
      step false rest = rest

  rising_of_part : (items : List BucketItem) → IsStrictlySortedBy id_cmp (map (λ item. item.id) items) → AreRising (items_of_part part items)
  unfolding IsStrictlySortedBy
  rising_of_part [] sorted = tt
  rising_of_part (item ∷ items) sorted =
      step (byte_of item.id == part) (all_of_part (λ id. id_cmp item.id id ≡ Less) items sorted.0) (rising_of_part items sorted.1)
    where
      step : (is : Bool) → AllByRecursion (λ id. id_cmp item.id id ≡ Less) (ids_of (items_of_part part items)) → AreRising (items_of_part part items)
          → AreRising (pushed (if is then Some (item_in item) else None) (items_of_part part items))
      step true below rest = (below, rest)
      step false below rest = rest

  -- what is found of the part is what the bucket has there
  abbrev found_of_part : PoolId → Option BucketItem → Option IndexItem
  found_of_part id item = if byte_of id == part then option_map item_in item else None

  at_part : (items : List BucketItem) (id : PoolId) → item_at (items_of_part part items) id ≡ found_of_part id (bucket_item_at items id)
  at_part [] id = none (byte_of id == part)
    where
      none : (is : Bool) → None ≡ (if is then option_map item_in None else None)
      none true = refl
      none false = refl
  at_part (item ∷ items) id = step (byte_of item.id == part) refl (is_same_id id item.id) refl (at_part items id)
    where
      step : (is : Bool) → (byte_of item.id == part) ≡ is → (same : Bool) → is_same_id id item.id ≡ same
          → item_at (items_of_part part items) id ≡ found_of_part id (bucket_item_at items id)
          → item_at (pushed (if is then Some (item_in item) else None) (items_of_part part items)) id
          ≡ found_of_part id (if same then Some item else bucket_item_at items id)
      step true e true same rest =
          ap (λ (b : Bool). if b then Some (item_in item) else item_at (items_of_part part items) id) same
          ∙ sym (ap (λ (b : Bool). if b then Some (item_in item) else None) (ap (λ (x : PoolId). byte_of x == part) (one_id id item.id same) ∙ e))
      step true e false other rest =
          ap (λ (b : Bool). if b then Some (item_in item) else item_at (items_of_part part items) id) other ∙ rest
      step false e true same rest =
          let not : (byte_of id == part) ≡ false = ap (λ (x : PoolId). byte_of x == part) (one_id id item.id same) ∙ e in
          rest ∙ ap (λ (b : Bool). if b then option_map item_in (bucket_item_at items id) else None) not
          ∙ sym (ap (λ (b : Bool). if b then Some (item_in item) else None) not)
      step false e false other rest = rest

  pub part_of_bucket : (slots : Slots) (items : List BucketItem) → IsBucketOf slots (part / 16) items
      → IsPartOf (index_of slots) part (items_of_part part items)
  part_of_bucket slots items of = record {
    rising = rising_of_part items of.rising;
    each = λ id. at_part items id ∙ ap (found_of_part id) (of.each id) ∙ step id (byte_of id == part) refl;
  }
    where
      live : (id : PoolId) (slot : Option Slot) → option_map item_in (bucket_item_of id slot) ≡ item_of id slot
      live id None = refl
      live id (Some (Live size mark claims)) = refl
      live id (Some (Staged size claims)) = refl
      live id (Some Doomed) = refl

      step : (id : PoolId) (is : Bool) → (byte_of id == part) ≡ is
          → (if is then option_map item_in (if byte_of id / 16 == part / 16 then bucket_item_of id (slots id) else None) else None)
          ≡ (if is then item_of id (slots id) else None)
      step id false e = refl
      step id true e =
          let one : byte_of id ≡ part = (Decides-eqb (byte_of id) part).0 e in
          let same : (byte_of id / 16 == part / 16) ≡ true = (Decides-eqb (byte_of id / 16) (part / 16)).1 (ap (λ (n : ℕ). n / 16) one) in
          ap (λ (b : Bool). option_map item_in (if b then bucket_item_of id (slots id) else None)) same ∙ live id (slots id)

-- what was picked of the bucket, if there was memory for it
pub picked_part : {E : Type 0} (part : ℕ) (slots : Slots) (bucket items : List BucketItem) → IsBucketOf slots (part / 16) bucket → items ≡ bucket
    → (result : Result (List IndexItem) E) → IfOk result (λ picked. picked ≡ items_of_part part items) → IfOk result (IsPartOf (index_of slots) part)
picked_part part slots bucket items of same (Ok picked) is =
    subst (IsPartOf (index_of slots) part) (sym (is ∙ ap (items_of_part part) same)) (part_of_bucket part slots bucket of)
picked_part part slots bucket items of same (Err fault) is = tt

-- ---- items as entries

abbrev entries_of : List IndexItem → List (PoolId × IndexItem)
entries_of items = map (λ item. (item.id, item)) items

items_back : (items : List IndexItem) → map (λ entry. entry.1) (entries_of items) ≡ items
items_back [] = refl
items_back (item ∷ items) = ap (λ rest. item ∷ rest) (items_back items)

entries_below : (id : PoolId) (items : List IndexItem) → AllByRecursion (λ other. id_cmp id other ≡ Less) (ids_of items)
    → IsBelowAll id_cmp id (entries_of items)
entries_below id [] all = tt
entries_below id (item ∷ items) all = (all.0, entries_below id items all.1)

entries_in_order : (items : List IndexItem) → AreRising items → IsInOrder id_cmp (entries_of items)
unfolding IsStrictlySortedBy
entries_in_order [] rising = tt
entries_in_order (item ∷ items) rising = (entries_below item.id items rising.0, entries_in_order items rising.1)

compared : (a b : PoolId) → eq_by_cmp id_cmp a b ≡ is_same_id a b
compared a b = step (id_cmp a b) refl (is_same_id a b) refl
  where
    tied : is_same_id a b ≡ true → id_cmp a b ≡ Equal
    tied same = ap (id_cmp a) (sym (one_id a b same)) ∙ tied_itself id_total a

    same_of : id_cmp a b ≡ Equal → is_same_id a b ≡ true
    same_of e = ap (is_same_id a) (sym (id_exact a b e)) ∙ is_same_file-itself (PoolFile a)

    step : (r : Ordering) → id_cmp a b ≡ r → (same : Bool) → is_same_id a b ≡ same → is_eq r ≡ same
    step Equal e same is = sym (same_of e) ∙ is
    step Less e false is = refl
    step Greater e false is = refl
    step Less e true is = let f = tied is in absurd (cc)
    step Greater e true is = let f = tied is in absurd (cc)

entries_at : (items : List IndexItem) (id : PoolId) → find id_cmp id (entries_of items) ≡ item_at items id
entries_at [] id = refl
entries_at (item ∷ items) id =
    (λ i. cond (compared id item.id i) (Some item) (entries_at items id i)) ∙ turned (is_same_id id item.id)
  where
    turned : (same : Bool) → cond same (Some item) (item_at items id) ≡ (if same then Some item else item_at items id)
    turned true = refl
    turned false = refl

-- ---- what the model lists

module _ (pool : Pool) where
  abbrev listed : Ids → List IndexItem
  listed ids = map (PoolListEvent.item_of pool) ids

  listed_below : (id : PoolId) (ids : Ids) → IsBelowAll id_cmp id ids → IsBelowAll id_cmp id (entries_of (listed ids))
  listed_below id [] below = tt
  listed_below id (entry ∷ ids) below = (below.0, listed_below id ids below.1)

  listed_in_order : (ids : Ids) → IsInOrder id_cmp ids → IsInOrder id_cmp (entries_of (listed ids))
  listed_in_order [] in_order = tt
  listed_in_order (entry ∷ ids) in_order = (listed_below entry.0 ids in_order.0, listed_in_order ids in_order.1)

  -- the item of a name with this content
  abbrev item_with : PoolId → List ℕ → IndexItem
  item_with id content = PoolListEvent.item_of pool (id, content)

  listed_at : (ids : Ids) (id : PoolId) → find id_cmp id (entries_of (listed ids)) ≡ option_map (item_with id) (content_at ids id)
  listed_at [] id = refl
  listed_at (entry ∷ ids) id = step (id_cmp id entry.0) refl (listed_at ids id)
    where
      step : (r : Ordering) → id_cmp id entry.0 ≡ r
          → find id_cmp id (entries_of (listed ids)) ≡ option_map (item_with id) (content_at ids id)
          → cond (is_eq r) (Some (PoolListEvent.item_of pool entry)) (find id_cmp id (entries_of (listed ids)))
          ≡ option_map (item_with id) (cond (is_eq r) (Some entry.1) (content_at ids id))
      step Less e rest = rest
      step Greater e rest = rest
      step Equal e rest = ap (λ (x : PoolId). Some (item_with x entry.1)) (sym (id_exact id entry.0 e))

  module _ (digest_of : List ℕ → List ℕ) (slots : Slots) (contents : PoolId → List ℕ) (ids : Ids)
      (is : IsPool digest_of (index_of slots) contents pool) (are : AreListed (index_of slots) contents ids) (part : ℕ) where
    named : (id : PoolId) (slot : Option Slot) (item : IndexItem) → item_of id slot ≡ Some item → item.id ≡ id
    named id None item e = absurd (cc)
    named id (Some (Live size mark claims)) item e =
        let same : record { id = id; size = size; mark = mark } ≡ item = cc in ap (λ (i : IndexItem). i.id) (sym same)
    named id (Some (Staged size claims)) item e = absurd (cc)
    named id (Some Doomed) item e = absurd (cc)

    -- what the index says of a name is what its content is in the pool
    item_is : (id : PoolId) (item : IndexItem) → index_of slots id ≡ Some item → item_with id (contents id) ≡ item
    item_is id item e =
        let pooled = is.pooled id item e in
        let name : id ≡ item.id = sym (named id (slots id) item e) in
        let size : length (contents id) ≡ item.size = sym pooled.size in
        let mark : unwrap_or (mark_of pool (contents id)) false ≡ item.mark = ap (λ (m : Option Bool). unwrap_or m false) pooled.mark in
        λ i. record { id = name i; size = size i; mark = mark i }

    abbrev of_part : PoolId → Bool
    of_part id = byte_of id == part

    model_at : (id : PoolId) → find id_cmp id (entries_of (PoolListEvent.items_of part pool ids)) ≡ listed_of_part (index_of slots) part id
    model_at id =
        listed_at (where_key id_cmp of_part ids) id
        ∙ ap (option_map (item_with id))
        (find-where_key id_cmp of_part id (λ x same. ap of_part (sym (id_exact id x same))) ids
        ∙ ap (λ (r : Option (List ℕ)). cond (of_part id) r None) (are.each id))
        ∙ step (of_part id) (index_of slots id) refl
      where
        step : (b : Bool) (item : Option IndexItem) → index_of slots id ≡ item
            → option_map (item_with id) (cond b (option_map (λ (item : IndexItem). contents id) item) None)
            ≡ (if b then item else None)
        step false item e = refl
        step true None e = refl
        step true (Some item) e = ap Some (item_is id item e)

    pub part_listed : (items : List IndexItem) → IsPartOf (index_of slots) part items → items ≡ PoolListEvent.items_of part pool ids
    part_listed items of =
        sym (items_back items) ∙ ap (map (λ (entry : PoolId × IndexItem). entry.1)) same ∙ items_back (PoolListEvent.items_of part pool ids)
      where
        same : entries_of items ≡ entries_of (PoolListEvent.items_of part pool ids)
        same = same_in_order id_cmp id_total id_exact (entries_of items) (entries_of (PoolListEvent.items_of part pool ids))
            (entries_in_order items of.rising)
            (listed_in_order (where_key id_cmp of_part ids) (IsInOrder-where_key id_cmp of_part ids are.in_order))
            (λ id. entries_at items id ∙ of.each id ∙ sym (model_at id))
