-- What std's searches by halving tell of entries in the order of their keys.
use Rattle.std.proofs.Common.{◌≡◌, ℕ, zero, suc, ◌+◌, ◌<◌, ◌≤◌, Bool, true, false, not, ◌&&◌, ◌||◌, cond, List, [], ◌∷◌, ◌++◌, length, take, drop, map, get_or, Some, None, refl, sym, ap, subst, ◌∙◌, arith}
use Rattle.std.specs.declared.cmp.Ordering.{Ordering}
use Rattle.std.specs.declared.cmp.Ordering.TheVariants.{Less, Equal, Greater}
use Rattle.std.specs.declared.result.Result.{Result}
use Rattle.std.specs.declared.result.Result.TheVariants.{Ok, Err}
use Rattle.std.specs.Ordering.{eq_by_cmp, is_eq, is_lt, ordering_reverse, ordering_index}
use Rattle.std.specs.Cmp.{IsTotalOrder, tied_back, alike_right}
use Rattle.std.specs.FinMap.Entries.{find, put, by_order}
use Rattle.std.specs.List.{AllWithin, HoldsAt, list_all, list_any}
use Rattle.std.specs.List.Sorted.{IsPartitionPoint, IsBinarySearchResult, IsSearchInRange, IsNonDecreasingBy, IsSortedBy}
use Rattle.std.proofs.lemmas.List.{get_or-map, length-map}
use Rattle.std.proofs.lemmas.List.Sorted.{searchable_from_sorted}
use Rattle.ordered_lists.specs.Order.{IsInOrder, IsBelowAll}
use Rattle.ordered_lists.specs.OrderLaws.{find_at, find_below, below_each, below_through, below_alike}
use Rattle.ordered_lists.specs.Search.{without_key, IsThere, IsAbsent, IsSearched}

module _ {K X : Type 0} (R : K → K → Ordering) (total : IsTotalOrder R) (q : K) where
  -- an entry of a key below is kept, and one of a key above too
  kept : (e : K × X) (es : List (K × X)) (r : Ordering) → R q e.0 ≡ r → is_eq r ≡ false → without_key R q (e ∷ es) ≡ e ∷ without_key R q es
  kept e es r is other = ap (λ b. cond (not b) (e ∷ without_key R q es) (without_key R q es)) (ap is_eq is ∙ other)

  -- below all, a key takes nothing away and is put first
  all_kept : (es : List (K × X)) → IsBelowAll R q es → without_key R q es ≡ es
  all_kept [] h = refl
  all_kept (e ∷ es) h = kept e es Less h.0 refl ∙ ap (λ fs. e ∷ fs) (all_kept es h.1)

  put_first : (es : List (K × X)) (v : X) → IsBelowAll R q es → put R q v es ≡ (q, v) ∷ es
  put_first [] v h = refl
  put_first (e ∷ es) v h = ap (λ r. by_order r ((q, v) ∷ e ∷ es) ((e.0, v) ∷ es) (e ∷ put R q v es)) h.0

  put_later : (e : K × X) (es : List (K × X)) (v : X) → R e.0 q ≡ Less → put R q v (e ∷ es) ≡ e ∷ put R q v es
  put_later e es v less =
      ap (λ r. by_order r ((q, v) ∷ e ∷ es) ((e.0, v) ∷ es) (e ∷ put R q v es)) (total.antisymm q e.0 ∙ ap ordering_reverse less)

  later : (e : K × X) → R e.0 q ≡ Less → R q e.0 ≡ Greater
  later e less = total.antisymm q e.0 ∙ ap ordering_reverse less

  before : (e : K × X) → R e.0 q ≡ Greater → R q e.0 ≡ Less
  before e greater = total.antisymm q e.0 ∙ ap ordering_reverse greater

  -- the first entry comes before the key that a later one has
  first_less : (e : K × X) (es : List (K × X)) (i : ℕ) (d : K × X) → IsBelowAll R e.0 es → i < length es → R (get_or es i d).0 q ≡ Equal
      → R e.0 q ≡ Less
  first_less e es i d below within same = sym (alike_right total (get_or es i d).0 q e.0 same) ∙ below_each R e.0 i es d below within

  there : (es : List (K × X)) (i : ℕ) (d : K × X) → IsInOrder R es → i < length es → R (get_or es i d).0 q ≡ Equal → (v : X)
      → (put R q v es ≡ take i es ++ ((get_or es i d).0, v) ∷ drop (suc i) es) × (without_key R q es ≡ take i es ++ drop (suc i) es)
  there [] i d h within same v = absurd (omega arith)
  there (e ∷ es) zero d h within same v =
      let level : R q e.0 ≡ Equal = tied_back total e.0 q same in (
        ap (λ r. by_order r ((q, v) ∷ e ∷ es) ((e.0, v) ∷ es) (e ∷ put R q v es)) level,
        ap (λ r. cond (not (is_eq r)) (e ∷ without_key R q es) (without_key R q es)) level ∙ all_kept es (below_alike R total q e.0 es level h.0),
      )
  there (e ∷ es) (suc i) d h within same v =
      let less : R e.0 q ≡ Less = first_less e es i d h.0 (omega arith) same in
      let rest = there es i d h.1 (omega arith) same v in (
        put_later e es v less ∙ ap (λ fs. e ∷ fs) rest.0,
        kept e es Greater (later e less) refl ∙ ap (λ fs. e ∷ fs) rest.1,
      )

module _ {K X E : Type 0} (R : K → K → Ordering) (total : IsTotalOrder R) (entry : E → K × X) where
  -- entries in order are sorted, so a search may halve them
  sorted : (xs : List E) → IsInOrder R (map entry xs) → IsSortedBy (λ a b. is_lt (R (entry a).0 (entry b).0)) xs
  sorted [] h k d low high = absurd (omega arith)
  sorted (x ∷ []) h k d low high = absurd (omega arith)
  sorted (x ∷ y ∷ xs) h zero d low high = ap is_lt (total.antisymm (entry y).0 (entry x).0 ∙ ap ordering_reverse h.0.0)
  sorted (x ∷ y ∷ xs) h (suc k) d low high =
      let next : suc k + 1 ≡ suc (k + 1) = omega arith in
      ap (λ n. is_lt (R (entry (get_or (x ∷ y ∷ xs) n d)).0 (entry (get_or (y ∷ xs) k d)).0)) next
      ∙ sorted (y ∷ xs) h.1 k d (omega arith) (omega arith)

  module _ (q : K) where
    -- between the entries of keys below and those of keys above nothing is found, and there a new entry is put
    absent : (xs : List E) (i : ℕ) → IsInOrder R (map entry xs) → i ≤ length xs → AllWithin (λ y. R (entry y).0 q ≡ Less) xs 0 i
        → AllWithin (λ y. R (entry y).0 q ≡ Greater) xs i (length xs) → (v : X)
        → (find R q (map entry xs) ≡ None) × (put R q v (map entry xs) ≡ take i (map entry xs) ++ (q, v) ∷ drop i (map entry xs)) × (without_key R q (map entry xs) ≡ map entry xs)
    absent [] zero h within below above v = (refl, refl, refl)
    absent [] (suc i) h within below above v = absurd (omega arith)
    absent (x ∷ xs) zero h within below above v =
        let first : R q (entry x).0 ≡ Less = before R total q (entry x) (above 0 x (omega arith) (omega arith)) in
        let all : IsBelowAll R q (map entry (x ∷ xs)) = (first, below_through R total q (entry x).0 (map entry xs) first h.0) in
        (find_below R total q (map entry (x ∷ xs)) all, put_first R total q (map entry (x ∷ xs)) v all, all_kept R total q (map entry (x ∷ xs)) all)
    absent (x ∷ xs) (suc i) h within below above v =
        let less : R (entry x).0 q ≡ Less = below 0 x (omega arith) (omega arith) in
        let rest = absent xs i h.1 (omega arith) (λ k d low high. below (suc k) d (omega arith) (omega arith)) (λ k d low high. above (suc k) d (omega arith) (omega arith)) v in (
          ap (λ r. cond (is_eq r) (Some (entry x).1) (find R q (map entry xs))) (later R total q (entry x) less) ∙ rest.0,
          put_later R total q (entry x) (map entry xs) v less ∙ ap (λ fs. entry x ∷ fs) rest.1,
          kept R total q (entry x) (map entry xs) Greater (later R total q (entry x) less) refl ∙ ap (λ fs. entry x ∷ fs) rest.2,
        )

    is_there : (xs : List E) (i : ℕ) → IsInOrder R (map entry xs) → i < length xs → HoldsAt (λ y. R (entry y).0 q ≡ Equal) xs i
        → IsThere R (map entry xs) q i
    is_there [] i h within at = absurd (omega arith)
    is_there (x ∷ xs) i h within at =
        let es = map entry (x ∷ xs) in
        let inside : i < length es = subst (λ n. i < n) (sym (length-map (x ∷ xs) entry)) within in
        let same : (d : K × X) → R (get_or es i d).0 q ≡ Equal = λ d. ap (λ e. R e.0 q) (get_or-map entry (x ∷ xs) i x d within) ∙ at x in
        let next : suc i ≡ i + 1 = omega arith in
        record {
          within = inside;
          found = λ d. find_at R total q i es d h inside (same d);
          put_is = λ d v. (there R total q es i d h inside (same d) v).0 ∙ ap (λ n. take i es ++ ((get_or es i d).0, v) ∷ drop n es) next;
          others_are = (there R total q es i (entry x) h inside (same (entry x)) (entry x).1).1 ∙ ap (λ n. take i es ++ drop n es) next;
        }

    is_absent : (xs : List E) (i : ℕ) → IsInOrder R (map entry xs) → i ≤ length xs → AllWithin (λ y. R (entry y).0 q ≡ Less) xs 0 i
        → AllWithin (λ y. R (entry y).0 q ≡ Greater) xs i (length xs) → IsAbsent R (map entry xs) q i
    is_absent xs i h within below above = record {
      within = subst (λ n. i ≤ n) (sym (length-map xs entry)) within;
      none = none xs i h within below above;
      put_is = λ v. (absent xs i h within below above v).1;
      others_are = others xs i h within below above;
    }
      where
        none : (xs : List E) (i : ℕ) → IsInOrder R (map entry xs) → i ≤ length xs → AllWithin (λ y. R (entry y).0 q ≡ Less) xs 0 i
            → AllWithin (λ y. R (entry y).0 q ≡ Greater) xs i (length xs) → find R q (map entry xs) ≡ None
        none [] i h within below above = refl
        none (x ∷ xs) i h within below above = (absent (x ∷ xs) i h within below above (entry x).1).0

        others : (xs : List E) (i : ℕ) → IsInOrder R (map entry xs) → i ≤ length xs → AllWithin (λ y. R (entry y).0 q ≡ Less) xs 0 i
            → AllWithin (λ y. R (entry y).0 q ≡ Greater) xs i (length xs)
            → without_key R q (map entry xs) ≡ map entry xs
        others [] i h within below above = refl
        others (x ∷ xs) i h within below above = (absent (x ∷ xs) i h within below above (entry x).1).2

    -- what std's search answers
    pub searched : (xs : List E) (answer : Result ℕ ℕ) → IsInOrder R (map entry xs) → IsSearchInRange answer (length xs)
        → IsBinarySearchResult (λ y. R (entry y).0 q) xs answer → IsSearched R (map entry xs) q answer
    searched xs (Ok i) h within at = is_there xs i h within at
    searched xs (Err i) h within point =
        let parts = point (searchable_from_sorted total (λ y. (entry y).0) xs q (sorted xs h)) in
        is_absent xs i h within parts.0 parts.1

-- what passes up to an index, and fails from it on
pub parted_at : {E : Type 0} (p : E → Bool) (xs : List E) (i : ℕ) → IsPartitionPoint (λ y. p y ≡ true) (λ y. p y ≡ false) xs i
    → (list_all p (take i xs) ≡ true) × (list_any p (drop i xs) ≡ false)
parted_at p [] zero point = (refl, refl)
parted_at p [] (suc i) point = (refl, refl)
parted_at p (x ∷ xs) zero point =
    let fails : p x ≡ false = point.1 0 x (omega arith) (omega arith) in
    let rest = parted_at p xs 0 ((λ k d low high. absurd (omega arith)), (λ k d low high. point.1 (suc k) d (omega arith) (omega arith))) in
    (refl, (λ k. fails k || rest.1 k))
parted_at p (x ∷ xs) (suc i) point =
    let passes : p x ≡ true = point.0 0 x (omega arith) (omega arith) in
    let rest = parted_at p xs i ((λ k d low high. point.0 (suc k) d (omega arith) (omega arith)), (λ k d low high. point.1 (suc k) d (omega arith) (omega arith))) in
    ((λ k. passes k && rest.0 k), rest.1)
