-- Laws of lists in the order of their keys.
--     same_in_order      two lists in order that answer alike are one
--     lookup-find, insert_entry-put      what a `BTreeMap` finds and inserts
--     find_at, find_before, find_after      what a comparison with one entry tells a search
use Rattle.std.specs.Prelude.{◌≡◌, Bool, true, false, ◌&&◌, List, [], ◌∷◌, Some, cond, ℕ, zero, suc, ◌<◌, ◌++◌, length, take, drop, None}
use Rattle.std.specs.declared.cmp.Ordering.{Ordering}
use Rattle.std.specs.declared.cmp.Ordering.TheVariants.{Less, Equal, Greater}
use Rattle.std.specs.Ordering.{is_eq, is_lt, match_ordering, eq_by_cmp, ordering_reverse}
use Rattle.std.specs.Cmp.{IsTotalOrder, tied_back, alike_right}
use Rattle.std.specs.FinMap.{IsAntisymmetric}
use Rattle.std.specs.FinMap.Entries.{find, put, where_key, is_sorted, below_all, is_sorted-put, is_sorted-where_key, same_entries, by_order}
use Rattle.std.specs.List.{AllByRecursion}
use Rattle.std.specs.List.Sorted.{IsStrictlySortedBy}
use Rattle.std.specs.Map.{keys_of, lookup}
use Rattle.std.specs.BTreeMap.{insert_entry, is_at}
use Rattle.std.proofs.Math.Dec.{T}
use Rattle.std.proofs.Common.{refl, sym, ap, subst, ◌∙◌, get_or, arith}
use Rattle.ordered_lists.specs.Order.{IsBelowAll, IsInOrder, is_after}

both : (a b : Bool) → T a → T b → T (a && b)
both true b p q = q
both false b p q = p

first : (a b : Bool) → T (a && b) → T a
first true b p = tt
first false b p = p

second : (a b : Bool) → T (a && b) → T b
second true b p = p
second false b p = absurd p

less : (r : Ordering) → T (is_lt r) → r ≡ Less
less Less h = refl
less Equal h = absurd h
less Greater h = absurd h

is_less : (r : Ordering) → r ≡ Less → T (is_lt r)
is_less r e = subst (λ o. T (is_lt o)) (sym e) tt

less_from_test : (r : Ordering) → is_lt r ≡ true → r ≡ Less
less_from_test Less e = refl
less_from_test Equal e = cc
less_from_test Greater e = cc

module _ {K X : Type 0} (R : K → K → Ordering) where
  below_test : (k : K) (es : List (K × X)) → IsBelowAll R k es → T (below_all R k es)
  below_test k [] h = tt
  below_test k (e ∷ es) h = both _ _ (is_less _ h.0) (below_test k es h.1)

  below_from_test : (k : K) (es : List (K × X)) → T (below_all R k es) → IsBelowAll R k es
  below_from_test k [] h = tt
  below_from_test k (e ∷ es) h = (less _ (first _ _ h), below_from_test k es (second _ _ h))

  pub is_sorted_from_order : (es : List (K × X)) → IsInOrder R es → T (is_sorted R es)
  is_sorted_from_order [] h = tt
  is_sorted_from_order (e ∷ es) h = both _ _ (below_test e.0 es h.0) (is_sorted_from_order es h.1)

  pub order_from_is_sorted : (es : List (K × X)) → T (is_sorted R es) → IsInOrder R es
  order_from_is_sorted [] h = tt
  order_from_is_sorted (e ∷ es) h = (below_from_test e.0 es (first _ _ h), order_from_is_sorted es (second _ _ h))

  -- some entries of a list in order are in order
  pub IsInOrder-where_key : (p : K → Bool) (es : List (K × X)) → IsInOrder R es → IsInOrder R (where_key R p es)
  IsInOrder-where_key p es h = order_from_is_sorted (where_key R p es) (is_sorted-where_key R p es (is_sorted_from_order es h))

  -- what a `BTreeMap` says of its keys
  pub order_from_keys : (es : List (K × X)) → IsStrictlySortedBy R (keys_of es) → IsInOrder R es
  unfolding IsStrictlySortedBy
  order_from_keys [] h = tt
  order_from_keys (e ∷ es) h = (below es h.0, order_from_keys es h.1)
    where
      below : (fs : List (K × X)) → AllByRecursion (λ y. R e.0 y ≡ Less) (keys_of fs) → IsBelowAll R e.0 fs
      below [] g = tt
      below (f ∷ fs) g = (g.0, below fs g.1)

  -- what a `BTreeMap` finds
  pub lookup-find : (q : K) (es : List (K × X)) → lookup (is_at (R q)) es ≡ find R q es
  lookup-find q [] = refl
  lookup-find q (e ∷ es) = ap (cond (is_eq (R q e.0)) (Some e.1)) (lookup-find q es)

  -- what a `BTreeMap` inserts
  pub insert_entry-put : (k : K) (v : X) (es : List (K × X)) → insert_entry R es k v ≡ put R k v es
  insert_entry-put k v [] = refl
  insert_entry-put k v (e ∷ es) = step (R k e.0) (insert_entry-put k v es)
    where
      step : (r : Ordering) → insert_entry R es k v ≡ put R k v es
          → match_ordering r ((k, v) ∷ e ∷ es) ((e.0, v) ∷ es) (e ∷ insert_entry R es k v) ≡ by_order r ((k, v) ∷ e ∷ es) ((e.0, v) ∷ es) (e ∷ put R k v es)
      step Less rest = refl
      step Equal rest = refl
      step Greater rest = ap (λ fs. e ∷ fs) rest

  module _ (total : IsTotalOrder R) where
    pub IsInOrder-put : (k : K) (v : X) (es : List (K × X)) → IsInOrder R es → IsInOrder R (put R k v es)
    IsInOrder-put k v es h = order_from_is_sorted (put R k v es) (is_sorted-put R total k v es (is_sorted_from_order es h))

    -- lists in order that answer alike are one
    pub same_in_order : IsAntisymmetric R → (es fs : List (K × X)) → IsInOrder R es → IsInOrder R fs → ((q : K) → find R q es ≡ find R q fs)
        → es ≡ fs
    same_in_order exact es fs g h alike = same_entries R total exact es fs (is_sorted_from_order es g) (is_sorted_from_order fs h) alike

  pub IsInOrder-drop : (n : ℕ) (es : List (K × X)) → IsInOrder R es → IsInOrder R (drop n es)
  IsInOrder-drop zero es h = h
  IsInOrder-drop (suc n) [] h = tt
  IsInOrder-drop (suc n) (e ∷ es) h = IsInOrder-drop n es h.1

  IsBelowAll-take : (k : K) (n : ℕ) (es : List (K × X)) → IsBelowAll R k es → IsBelowAll R k (take n es)
  IsBelowAll-take k zero es h = tt
  IsBelowAll-take k (suc n) [] h = tt
  IsBelowAll-take k (suc n) (e ∷ es) h = (h.0, IsBelowAll-take k n es h.1)

  IsBelowAll-drop : (k : K) (n : ℕ) (es : List (K × X)) → IsBelowAll R k es → IsBelowAll R k (drop n es)
  IsBelowAll-drop k zero es h = h
  IsBelowAll-drop k (suc n) [] h = tt
  IsBelowAll-drop k (suc n) (e ∷ es) h = IsBelowAll-drop k n es h.1

  pub IsInOrder-take : (n : ℕ) (es : List (K × X)) → IsInOrder R es → IsInOrder R (take n es)
  IsInOrder-take zero es h = tt
  IsInOrder-take (suc n) [] h = tt
  IsInOrder-take (suc n) (e ∷ es) h = (IsBelowAll-take e.0 n es h.0, IsInOrder-take n es h.1)

  -- a key below all is below each
  pub below_each : (k : K) (n : ℕ) (es : List (K × X)) (d : K × X) → IsBelowAll R k es → n < length es → R k (get_or es n d).0 ≡ Less
  below_each k n [] d h within = absurd (omega arith)
  below_each k zero (e ∷ es) d h within = h.0
  below_each k (suc n) (e ∷ es) d h within = below_each k n es d h.1 (omega arith)

  module _ (total : IsTotalOrder R) where
    pub below_through : (q k : K) (es : List (K × X)) → R q k ≡ Less → IsBelowAll R k es → IsBelowAll R q es
    below_through q k [] less h = tt
    below_through q k (e ∷ es) less h = (total.trans q k e.0 less h.0, below_through q k es less h.1)

    pub below_alike : (q k : K) (es : List (K × X)) → R q k ≡ Equal → IsBelowAll R k es → IsBelowAll R q es
    below_alike q k [] same h = tt
    below_alike q k (e ∷ es) same h = (total.congr q k e.0 same ∙ h.0, below_alike q k es same h.1)

    -- a key below all is not found
    pub find_below : (q : K) (es : List (K × X)) → IsBelowAll R q es → find R q es ≡ None
    find_below q [] h = refl
    find_below q (e ∷ es) h = ap (λ r. cond (is_eq r) (Some e.1) (find R q es)) h.0 ∙ find_below q es h.1

    -- an entry before the key is not the one
    passed_by : (q : K) (e : K × X) (es : List (K × X)) → R e.0 q ≡ Less → find R q (e ∷ es) ≡ find R q es
    passed_by q e es less = ap (λ r. cond (is_eq r) (Some e.1) (find R q es)) (total.antisymm q e.0 ∙ ap ordering_reverse less)

    -- an entry that compares Equal is the one
    pub find_at : (q : K) (n : ℕ) (es : List (K × X)) (d : K × X) → IsInOrder R es → n < length es → R (get_or es n d).0 q ≡ Equal
        → find R q es ≡ Some (get_or es n d).1
    find_at q n [] d h within same = absurd (omega arith)
    find_at q zero (e ∷ es) d h within same = ap (λ r. cond (is_eq r) (Some e.1) (find R q es)) (tied_back total e.0 q same)
    find_at q (suc n) (e ∷ es) d h within same =
        passed_by q e es (sym (alike_right total (get_or es n d).0 q e.0 same) ∙ below_each e.0 n es d h.0 (omega arith))
        ∙ find_at q n es d h.1 (omega arith) same

    -- after an entry that compares Less
    pub find_after : (q : K) (n : ℕ) (es : List (K × X)) (d : K × X) → IsInOrder R es → n < length es → R (get_or es n d).0 q ≡ Less
        → find R q es ≡ find R q (drop (suc n) es)
    find_after q n [] d h within less = absurd (omega arith)
    find_after q zero (e ∷ es) d h within less = passed_by q e es less
    find_after q (suc n) (e ∷ es) d h within less =
        passed_by q e es (total.trans e.0 (get_or es n d).0 q (below_each e.0 n es d h.0 (omega arith)) less)
        ∙ find_after q n es d h.1 (omega arith) less

    -- before an entry that compares Greater
    pub find_before : (q : K) (n : ℕ) (es : List (K × X)) (d : K × X) → IsInOrder R es → n < length es → R (get_or es n d).0 q ≡ Greater
        → find R q es ≡ find R q (take n es)
    find_before q n [] d h within greater = absurd (omega arith)
    find_before q zero (e ∷ es) d h within greater =
        let less : R q e.0 ≡ Less = total.antisymm q e.0 ∙ ap ordering_reverse greater in
        find_below q (e ∷ es) (less, below_through q e.0 es less h.0)
    find_before q (suc n) (e ∷ es) d h within greater =
        ap (cond (eq_by_cmp R q e.0) (Some e.1)) (find_before q n es d h.1 (omega arith) greater)

    -- a key that both halves answer for is in neither
    pub find_nowhere : (q : K) (n : ℕ) (es : List (K × X)) → IsInOrder R es → find R q es ≡ find R q (drop n es)
        → find R q es ≡ find R q (take n es) → find R q es ≡ None
    find_nowhere q zero es h after before = before
    find_nowhere q (suc n) [] h after before = refl
    find_nowhere q (suc n) (e ∷ es) h after before = step (R q e.0) refl (find_nowhere q n es h.1) after before
      where
        none_after : R q e.0 ≡ Equal → find R q (drop n es) ≡ None
        none_after same = find_below q (drop n es) (IsBelowAll-drop q n es (below_alike q e.0 es same h.0))

        step : (r : Ordering) → R q e.0 ≡ r → (find R q es ≡ find R q (drop n es) → find R q es ≡ find R q (take n es) → find R q es ≡ None)
            → cond (is_eq r) (Some e.1) (find R q es) ≡ find R q (drop n es)
            → cond (is_eq r) (Some e.1) (find R q es) ≡ cond (is_eq r) (Some e.1) (find R q (take n es))
            → cond (is_eq r) (Some e.1) (find R q es) ≡ None
        step Less is rest b f = rest b f
        step Equal is rest b f = b ∙ none_after is
        step Greater is rest b f = rest b f

  -- the same by the place of the last entry
  pub is_after-last : (q : K) (e : K × X) (es : List (K × X)) (d : K × X)
      → is_after R (e ∷ es) q ≡ is_lt (R (get_or (e ∷ es) (length es) d).0 q)
  is_after-last q e [] d = refl
  is_after-last q e (f ∷ es) d = is_after-last q f es d

  below_snoc : (k : K) (es : List (K × X)) (e : K × X) → IsBelowAll R k es → R k e.0 ≡ Less → IsBelowAll R k (es ++ e ∷ [])
  below_snoc k [] e h less = (less, tt)
  below_snoc k (f ∷ es) e h less = (h.0, below_snoc k es e h.1 less)

  below_middle : (k : K) (es : List (K × X)) (e : K × X) (more : List (K × X)) → IsBelowAll R k (es ++ e ∷ more) → R k e.0 ≡ Less
  below_middle k [] e more h = h.0
  below_middle k (f ∷ es) e more h = below_middle k es e more h.1

  -- a key that isn't after makes no list in order, whatever follows
  pub not_rising : (es : List (K × X)) (e : K × X) (more : List (K × X)) → is_after R es e.0 ≡ false → IsInOrder R (es ++ e ∷ more) → ⊥
  not_rising [] e more back h = cc
  not_rising (f ∷ []) e more back h =
      let same : is_lt (R f.0 e.0) ≡ true = ap is_lt h.0.0 in
      cc
  not_rising (f ∷ g ∷ es) e more back h = not_rising (g ∷ es) e more back h.1

  -- entries that are in order come before those after them
  pub IsInOrder-prefix : (es more : List (K × X)) → IsInOrder R (es ++ more) → IsInOrder R es
  IsInOrder-prefix [] more h = tt
  IsInOrder-prefix (e ∷ es) more h = (front es h.0, IsInOrder-prefix es more h.1)
    where
      front : (fs : List (K × X)) → IsBelowAll R e.0 (fs ++ more) → IsBelowAll R e.0 fs
      front [] g = tt
      front (f ∷ fs) g = (g.0, front fs g.1)

  module _ (total : IsTotalOrder R) where
    -- a key after the last is after each
    after_first : (q : K) (e : K × X) (es : List (K × X)) → IsInOrder R (e ∷ es) → is_after R (e ∷ es) q ≡ true → R e.0 q ≡ Less
    after_first q e [] h after = less_from_test (R e.0 q) after
    after_first q e (f ∷ es) h after = total.trans e.0 f.0 q h.0.0 (after_first q f es h.1 after)

    -- an entry after the others keeps them in order
    pub IsInOrder-append : (es : List (K × X)) (e : K × X) → IsInOrder R es → is_after R es e.0 ≡ true → IsInOrder R (es ++ e ∷ [])
    IsInOrder-append [] e h after = (tt, tt)
    IsInOrder-append (f ∷ []) e h after = ((after_first e.0 f [] h after, tt), (tt, tt))
    IsInOrder-append (f ∷ g ∷ es) e h after =
        (below_snoc f.0 (g ∷ es) e h.0 (after_first e.0 f (g ∷ es) h after), IsInOrder-append (g ∷ es) e h.1 after)
