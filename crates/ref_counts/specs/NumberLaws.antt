-- Laws of numbers of ids.
--     number-summed, number-less      the numbers of merged counts
--     number-put      the number of an id that is put
--     same_counts      counts of the same numbers are one
use Rattle.std.specs.Prelude.{◌≡◌, ℕ, zero, suc, ◌+◌, ◌-◌, ◌<◌, ◌^◌, Bool, true, false, cond, List, [], ◌∷◌, ◌++◌, Option, Some, None, if◌then◌else◌}
use Rattle.std.specs.declared.cmp.Ordering.{Ordering}
use Rattle.std.specs.declared.cmp.Ordering.TheVariants.{Less, Equal, Greater}
use Rattle.std.specs.Ordering.{eq_by_cmp, match_ordering}
use Rattle.std.specs.Option.{unwrap_or}
use Rattle.std.specs.FinMap.Entries.{find, put, find-put, by_order}
use Rattle.std.proofs.Common.{refl, sym, ap, ◌∙◌, arith}
use Rattle.disk_trait.specs.declared.ids.PoolId.{PoolId}
use Rattle.ordered_lists.specs.OrderLaws.{same_in_order}
use Rattle.ordered_lists.specs.Merge.{entry_then, right_only, merge_at, merge}
use Rattle.ordered_lists.specs.MergeLaws.{find-merge, IsInOrder-merge}
use Rattle.attr_tables.specs.Records.{is_same_id}
use Rattle.pool_index.specs.Items.{id_cmp}
use Rattle.pool_index.specs.ItemLaws.{id_total, id_exact}
use Rattle.merge_view.specs.Views.{Rows}
use Rattle.stored_trees.specs.Occurrences.{names, occurrences}
use Rattle.ref_counts.specs.IdsLaws.{same_key}
use Rattle.ref_counts.specs.Numbers.{Items, AreSome, AreCounts, number, total, capped, item_of, summed, less}

-- ---- items

pub number_of-item : (n : ℕ) → unwrap_or (item_of n) 0 ≡ n
number_of-item zero = refl
number_of-item (suc n) = refl

pub item_of-some : (n : ℕ) → 0 < n → item_of n ≡ Some n
item_of-some zero h = absurd (omega arith)
item_of-some (suc n) h = refl

-- the value is some, if there is one
abbrev pub IsSomeNumber : Option ℕ → Type 0
IsSomeNumber None = Unit {0}
IsSomeNumber (Some n) = 0 < n

some-item_of : (n : ℕ) → IsSomeNumber (item_of n)
some-item_of zero = tt
some-item_of (suc n) = omega arith

-- ---- merges

module _ (f : Option ℕ → Option ℕ → Option ℕ) (some : (a b : Option ℕ) → IsSomeNumber (f a b)) where
  some-entry_then : (id : PoolId) (n : Option ℕ) (rest : Items) → IsSomeNumber n → AreSome rest → AreSome (entry_then id n rest)
  some-entry_then id None rest h all = all
  some-entry_then id (Some n) rest h all = (h, all)

  some-right_only : (ys : Items) → AreSome (right_only id_cmp f ys)
  some-right_only [] = tt
  some-right_only (y ∷ ys) = some-entry_then y.0 (f None (Some y.1)) _ (some None (Some y.1)) (some-right_only ys)

  some-merge_at : (x : PoolId × ℕ) (left : Items → Items) → ((ys : Items) → AreSome (left ys)) → (ys : Items) → AreSome (merge_at id_cmp f x left ys)
  some-merge_at x left all [] = some-entry_then x.0 (f (Some x.1) None) _ (some (Some x.1) None) (all [])
  some-merge_at x left all (y ∷ ys) = step (id_cmp x.0 y.0) (some-merge_at x left all ys)
    where
      step : (r : Ordering) → AreSome (merge_at id_cmp f x left ys)
          → AreSome (match_ordering r (entry_then x.0 (f (Some x.1) None) (left (y ∷ ys))) (entry_then x.0 (f (Some x.1) (Some y.1)) (left ys)) (entry_then y.0 (f None (Some y.1)) (merge_at id_cmp f x left ys)))
      step Less rest = some-entry_then x.0 (f (Some x.1) None) _ (some (Some x.1) None) (all (y ∷ ys))
      step Equal rest = some-entry_then x.0 (f (Some x.1) (Some y.1)) _ (some (Some x.1) (Some y.1)) (all ys)
      step Greater rest = some-entry_then y.0 (f None (Some y.1)) _ (some None (Some y.1)) rest

  some-merge : (xs ys : Items) → AreSome (merge id_cmp f xs ys)
  some-merge [] ys = some-right_only ys
  some-merge (x ∷ xs) ys = some-merge_at x (merge id_cmp f xs) (λ zs. some-merge xs zs) ys

pub AreCounts-summed : (xs ys : Items) → AreCounts xs → AreCounts ys → AreCounts (merge id_cmp summed xs ys)
AreCounts-summed xs ys g h = (IsInOrder-merge id_cmp summed id_total xs ys g.0 h.0, some-merge summed (λ a b. some-item_of (capped (unwrap_or a 0 + unwrap_or b 0))) xs ys)

pub AreCounts-less : (xs ys : Items) → AreCounts xs → AreCounts ys → AreCounts (merge id_cmp less xs ys)
AreCounts-less xs ys g h = (IsInOrder-merge id_cmp less id_total xs ys g.0 h.0, some-merge less (λ a b. some-item_of (unwrap_or a 0 - unwrap_or b 0)) xs ys)

pub number-summed : (xs ys : Items) → AreCounts xs → AreCounts ys → (id : PoolId) → number (merge id_cmp summed xs ys) id ≡ capped (number xs id + number ys id)
number-summed xs ys g h id = ap (λ o. unwrap_or o 0) (find-merge id_cmp summed id_total refl id xs ys g.0 h.0) ∙ number_of-item (capped (number xs id + number ys id))

pub number-less : (xs ys : Items) → AreCounts xs → AreCounts ys → (id : PoolId) → number (merge id_cmp less xs ys) id ≡ number xs id - number ys id
number-less xs ys g h id = ap (λ o. unwrap_or o 0) (find-merge id_cmp less id_total refl id xs ys g.0 h.0) ∙ number_of-item (number xs id - number ys id)

-- ---- puts

pub number-put : (k : PoolId) (v : ℕ) (items : Items) (q : PoolId) → number (put id_cmp k v items) q ≡ (if is_same_id k q then v else number items q)
number-put k v items q = ap (λ o. unwrap_or o 0) (find-put id_cmp id_total q k v items) ∙ step (eq_by_cmp id_cmp q k) ∙ ap (λ b. if b then v else number items q) (same_key q k)
  where
    step : (b : Bool) → unwrap_or (cond b (Some v) (find id_cmp q items)) 0 ≡ (if b then v else number items q)
    step true = refl
    step false = refl

pub AreSome-put : (k : PoolId) (v : ℕ) (items : Items) → 0 < v → AreSome items → AreSome (put id_cmp k v items)
AreSome-put k v [] p h = (p, tt)
AreSome-put k v (item ∷ items) p h = step (id_cmp k item.0) (AreSome-put k v items p h.1)
  where
    step : (r : Ordering) → AreSome (put id_cmp k v items) → AreSome (by_order r ((k, v) ∷ item ∷ items) ((item.0, v) ∷ items) (item ∷ put id_cmp k v items))
    step Less rest = (p, h)
    step Equal rest = (p, h.1)
    step Greater rest = (h.0, rest)

-- one more of an id
pub capped-more : (a n : ℕ) → a ≡ capped n → capped (a + 1) ≡ capped (n + 1)
capped-more a n e = omega (arith, e)

pub capped-few : (n : ℕ) → n < 2 ^ 64 → capped n ≡ n
capped-few n h = omega arith

pub capped-some : (n : ℕ) → 0 < n → 0 < capped n
capped-some n h = omega arith

pub some-capped : (n : ℕ) → 0 < capped n → 0 < n
some-capped n h = omega arith

-- ---- sums

sum_moves : (a b c : ℕ) → (a + b) + c ≡ a + (b + c)
sum_moves a b c = omega arith

pub occurrences-append : (id : PoolId) (rows more : Rows) → occurrences id (rows ++ more) ≡ occurrences id rows + occurrences id more
occurrences-append id [] more = omega arith
occurrences-append id (row ∷ rows) more =
    ap (λ n. (if names id row.1 then 1 else 0) + n) (occurrences-append id rows more)
    ∙ sym (sum_moves (if names id row.1 then 1 else 0) (occurrences id rows) (occurrences id more))

pub total-append : (id : PoolId) (tables more : List Rows) → total id (tables ++ more) ≡ total id tables + total id more
total-append id [] more = omega arith
total-append id (table ∷ tables) more = ap (λ n. occurrences id table + n) (total-append id tables more) ∙ sym (sum_moves (occurrences id table) (total id tables) (total id more))

-- ---- counts of the same numbers

find_from_number : (id : PoolId) (items : Items) → AreSome items → find id_cmp id items ≡ item_of (number items id)
find_from_number id [] h = refl
find_from_number id (item ∷ items) h = step (eq_by_cmp id_cmp id item.0) (find_from_number id items h.1)
  where
    step : (b : Bool) → find id_cmp id items ≡ item_of (number items id)
        → cond b (Some item.1) (find id_cmp id items) ≡ item_of (unwrap_or (cond b (Some item.1) (find id_cmp id items)) 0)
    step true rest = sym (item_of-some item.1 h.0)
    step false rest = rest

pub same_counts : (xs ys : Items) → AreCounts xs → AreCounts ys → ((id : PoolId) → number xs id ≡ number ys id) → xs ≡ ys
same_counts xs ys g h same = same_in_order id_cmp id_total id_exact xs ys g.0 h.0 (λ id. find_from_number id xs g.1 ∙ ap item_of (same id) ∙ sym (find_from_number id ys h.1))
