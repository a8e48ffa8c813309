-- A search by halving among what a folder lists in a directory finds what its tree has there.
use Rattle.std.specs.Prelude.{◌≡◌, ℕ, zero, suc, ◌+◌, ◌<◌, Bool, true, false, cond, List, [], ◌∷◌, length, map, get_or, Some, None}
use Rattle.std.specs.List.{filter, AllWithin, HoldsAt}
use Rattle.std.specs.List.Sorted.{IsBinarySearchResult, IsSortedBy}
use Rattle.std.specs.declared.cmp.Ordering.{Ordering}
use Rattle.std.specs.declared.cmp.Ordering.TheVariants.{Less, Equal, Greater}
use Rattle.std.specs.declared.result.Result.TheVariants.{Ok, Err}
use Rattle.std.specs.Ordering.{is_eq, is_lt, ordering_reverse}
use Rattle.std.proofs.Common.{refl, sym, ap, ◌∙◌, subst, arith}
use Rattle.std.proofs.lemmas.List.{get_or-map, length-map}
use Rattle.std.proofs.lemmas.List.Sorted.{searchable_from_sorted}
use Rattle.ordered_lists.specs.Order.{IsInOrder, IsBelowAll}
use Rattle.ordered_lists.specs.OrderLaws.{find_at}
use Rattle.attr_records.specs.declared.nodes.Item.{Item}
use Rattle.attr_records.specs.Items.{Tree}
use Rattle.attr_records.specs.Paths.{path_cmp}
use Rattle.attr_records.specs.PathLaws.{path_cmp_total}
use Rattle.attr_records.specs.Trees.{node_at}

below_filter : (p : List ℕ × Item → Bool) (k : List ℕ) (es : Tree) → IsBelowAll path_cmp k es → IsBelowAll path_cmp k (filter p es)
below_filter p k [] h = tt
below_filter p k (e ∷ es) h = step (p e) (below_filter p k es h.1)
  where
    step : (b : Bool) → IsBelowAll path_cmp k (filter p es) → IsBelowAll path_cmp k (cond b (e ∷ filter p es) (filter p es))
    step true rest = (h.0, rest)
    step false rest = rest

-- some rows of a tree are in order
pub order_filter : (p : List ℕ × Item → Bool) (es : Tree) → IsInOrder path_cmp es → IsInOrder path_cmp (filter p es)
order_filter p [] h = tt
order_filter p (e ∷ es) h = step (p e) (order_filter p es h.1)
  where
    step : (b : Bool) → IsInOrder path_cmp (filter p es) → IsInOrder path_cmp (cond b (e ∷ filter p es) (filter p es))
    step true rest = (below_filter p e.0 es h.0, rest)
    step false rest = rest

-- rows of any form, which have the paths of those that they are made of
module _ {E : Type 0} (made : List ℕ × Item → E) (path_of : E → List ℕ) (same : (e : List ℕ × Item) → path_of (made e) ≡ e.0) where
  -- where they are in order, a search may halve them
  sorted : (es : Tree) → IsInOrder path_cmp es → IsSortedBy (λ a b. is_lt (path_cmp (path_of a) (path_of b))) (map made es)
  sorted [] h k d low high = absurd (omega arith)
  sorted (x ∷ []) h k d low high = absurd (omega arith)
  sorted (x ∷ y ∷ es) h zero d low high =
      (λ i. is_lt (path_cmp (same y i) (same x i))) ∙ ap is_lt (path_cmp_total.antisymm y.0 x.0 ∙ ap ordering_reverse h.0.0)
  sorted (x ∷ y ∷ es) h (suc k) d low high =
      let next : suc k + 1 ≡ suc (k + 1) = omega arith in
      ap (λ n. is_lt (path_cmp (path_of (get_or (map made (x ∷ y ∷ es)) n d)) (path_of (get_or (map made (y ∷ es)) k d)))) next
      ∙ sorted (y ∷ es) h.1 k d (omega arith) (omega arith)

  module _ (q : List ℕ) where
    abbrev against : E → Ordering
    against row = path_cmp (path_of row) q

    -- the row at an index that a search answers is that of the path
    at_index : (es : Tree) (i : ℕ) (row : E) → IsInOrder path_cmp es → i < length (map made es) → HoldsAt (λ y. against y ≡ Equal) (map made es) i
        → row ≡ get_or (map made es) i row → (path : List ℕ) × (item : Item) × (row ≡ made (path, item)) × (node_at es q ≡ Some item)
    at_index [] i row h within at is = absurd (omega arith)
    at_index (e ∷ es) i row h within at is =
        let inside : i < length (e ∷ es) = subst (λ n. i < n) (length-map (e ∷ es) made) within in
        let entry : List ℕ × Item = get_or (e ∷ es) i e in
        let made_of : get_or (map made (e ∷ es)) i row ≡ made entry = get_or-map made (e ∷ es) i e row inside in
        let level : path_cmp entry.0 q ≡ Equal = ap (λ p. path_cmp p q) (sym (same entry)) ∙ ap against (sym made_of) ∙ at row in
        (entry.0, entry.1, is ∙ made_of, find_at path_cmp path_cmp_total q i (e ∷ es) e h inside level)

    passed : (e : List ℕ × Item) (es : Tree) (r : Ordering) → path_cmp q e.0 ≡ r → is_eq r ≡ false → node_at es q ≡ None → node_at (e ∷ es) q ≡ None
    passed e es r is other none = ap (λ b. cond b (Some e.1) (node_at es q)) (ap is_eq is ∙ other) ∙ none

    -- where a search finds nothing, there is nothing
    nowhere : (es : Tree) (i : ℕ) → AllWithin (λ y. against y ≡ Less) (map made es) 0 i
        → AllWithin (λ y. against y ≡ Greater) (map made es) i (length (map made es)) → node_at es q ≡ None
    nowhere [] i below above = refl
    nowhere (e ∷ es) zero below above =
        let greater : path_cmp e.0 q ≡ Greater = ap (λ p. path_cmp p q) (sym (same e)) ∙ above 0 (made e) (omega arith) (omega arith) in
        passed e es Less (path_cmp_total.antisymm q e.0 ∙ ap ordering_reverse greater) refl
        (nowhere es 0 (λ k d low high. absurd (omega arith)) (λ k d low high. above (suc k) d (omega arith) (omega arith)))
    nowhere (e ∷ es) (suc i) below above =
        let less : path_cmp e.0 q ≡ Less = ap (λ p. path_cmp p q) (sym (same e)) ∙ below 0 (made e) (omega arith) (omega arith) in
        passed e es Greater (path_cmp_total.antisymm q e.0 ∙ ap ordering_reverse less) refl
        (nowhere es i (λ k d low high. below (suc k) d (omega arith) (omega arith)) (λ k d low high. above (suc k) d (omega arith) (omega arith)))

    -- what std's search answers
    pub search_found : (es : Tree) (i : ℕ) (row : E) → IsInOrder path_cmp es → i < length (map made es)
        → IsBinarySearchResult against (map made es) (Ok i) → row ≡ get_or (map made es) i row
        → (path : List ℕ) × (item : Item) × (row ≡ made (path, item)) × (node_at es q ≡ Some item)
    search_found es i row h within at is = at_index es i row h within at is

    pub search_nowhere : (es : Tree) (i : ℕ) → IsInOrder path_cmp es → IsBinarySearchResult against (map made es) (Err i) → node_at es q ≡ None
    search_nowhere es i h point =
        let parts = point (searchable_from_sorted path_cmp_total path_of (map made es) q (sorted es h)) in
        nowhere es i parts.0 parts.1
