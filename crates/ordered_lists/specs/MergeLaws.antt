-- Laws of the merge of two lists in the order of their keys, for each f that gives nothing of nothing.
--     IsInOrder-merge, find-merge      its order, and what it has at a key
use Rattle.std.specs.Prelude.{◌≡◌, true, false, cond, List, [], ◌∷◌, Option, Some, None}
use Rattle.std.specs.declared.cmp.Ordering.{Ordering}
use Rattle.std.specs.declared.cmp.Ordering.TheVariants.{Less, Equal, Greater}
use Rattle.std.specs.Ordering.{match_ordering, is_eq, eq_by_cmp, ordering_reverse}
use Rattle.std.specs.Cmp.{IsTotalOrder, alike_right}
use Rattle.std.specs.FinMap.Entries.{find}
use Rattle.std.proofs.Common.{refl, sym, ap, ◌∙◌}
use Rattle.ordered_lists.specs.Order.{IsInOrder, IsBelowAll}
use Rattle.ordered_lists.specs.OrderLaws.{below_through, below_alike, find_below}
use Rattle.ordered_lists.specs.Merge.{entry_then, right_only, merge_at, merge}

module _ {K Z : Type 0} (R : K → K → Ordering) where
  below-entry_then : (k key : K) (z : Option Z) (rest : List (K × Z)) → R k key ≡ Less → IsBelowAll R k rest
      → IsBelowAll R k (entry_then key z rest)
  below-entry_then k key None rest less h = h
  below-entry_then k key (Some z) rest less h = (less, h)

  order-entry_then : (key : K) (z : Option Z) (rest : List (K × Z)) → IsBelowAll R key rest → IsInOrder R rest
      → IsInOrder R (entry_then key z rest)
  order-entry_then key None rest below h = h
  order-entry_then key (Some z) rest below h = (below, h)

  -- another key finds what it finds in the others
  other-entry_then : (q key : K) (z : Option Z) (rest : List (K × Z)) → eq_by_cmp R q key ≡ false
      → find R q (entry_then key z rest) ≡ find R q rest
  other-entry_then q key None rest other = refl
  other-entry_then q key (Some z) rest other = ap (λ b. cond b (Some z) (find R q rest)) other

  -- the key finds its value, where the others don't have it
  same-entry_then : (q key : K) (z : Option Z) (rest : List (K × Z)) → eq_by_cmp R q key ≡ true → find R q rest ≡ None
      → find R q (entry_then key z rest) ≡ z
  same-entry_then q key None rest same none = none
  same-entry_then q key (Some z) rest same none = ap (λ b. cond b (Some z) (find R q rest)) same

module _ {K X Y Z : Type 0} (R : K → K → Ordering) (f : Option X → Option Y → Option Z) where
  below-right_only : (k : K) (ys : List (K × Y)) → IsBelowAll R k ys → IsBelowAll R k (right_only R f ys)
  below-right_only k [] h = tt
  below-right_only k (y ∷ ys) h = below-entry_then R k y.0 (f None (Some y.1)) (right_only R f ys) h.0 (below-right_only k ys h.1)

  below-merge_at : (k : K) (x : K × X) (left : List (K × Y) → List (K × Z)) → R k x.0 ≡ Less
      → ((zs : List (K × Y)) → IsBelowAll R k zs → IsBelowAll R k (left zs))
      → (ys : List (K × Y)) → IsBelowAll R k ys → IsBelowAll R k (merge_at R f x left ys)
  below-merge_at k x left less below [] h = below-entry_then R k x.0 (f (Some x.1) None) (left []) less (below [] tt)
  below-merge_at k x left less below (y ∷ ys) h = step (R x.0 y.0) (below-merge_at k x left less below ys h.1)
    where
      step : (r : Ordering) → IsBelowAll R k (merge_at R f x left ys)
          → IsBelowAll R k (match_ordering r (entry_then x.0 (f (Some x.1) None) (left (y ∷ ys))) (entry_then x.0 (f (Some x.1) (Some y.1)) (left ys)) (entry_then y.0 (f None (Some y.1)) (merge_at R f x left ys)))
      step Less rest = below-entry_then R k x.0 (f (Some x.1) None) (left (y ∷ ys)) less (below (y ∷ ys) h)
      step Equal rest = below-entry_then R k x.0 (f (Some x.1) (Some y.1)) (left ys) less (below ys h.1)
      step Greater rest = below-entry_then R k y.0 (f None (Some y.1)) (merge_at R f x left ys) h.0 rest

  -- a key before all of both is before all of the merge
  pub below-merge : (k : K) (xs : List (K × X)) (ys : List (K × Y)) → IsBelowAll R k xs → IsBelowAll R k ys
      → IsBelowAll R k (merge R f xs ys)
  below-merge k [] ys g h = below-right_only k ys h
  below-merge k (x ∷ xs) ys g h = below-merge_at k x (merge R f xs) g.0 (λ zs below. below-merge k xs zs g.1 below) ys h

  module _ (total : IsTotalOrder R) where
    order-right_only : (ys : List (K × Y)) → IsInOrder R ys → IsInOrder R (right_only R f ys)
    order-right_only [] h = tt
    order-right_only (y ∷ ys) h =
        order-entry_then R y.0 (f None (Some y.1)) (right_only R f ys) (below-right_only y.0 ys h.0) (order-right_only ys h.1)

    order-merge_at : (x : K × X) (xs : List (K × X)) → IsBelowAll R x.0 xs
        → ((zs : List (K × Y)) → IsInOrder R zs → IsInOrder R (merge R f xs zs))
        → (ys : List (K × Y)) → IsInOrder R ys → IsInOrder R (merge_at R f x (merge R f xs) ys)
    order-merge_at x xs g left [] h = order-entry_then R x.0 (f (Some x.1) None) (merge R f xs []) (below-merge x.0 xs [] g tt) (left [] tt)
    order-merge_at x xs g left (y ∷ ys) h = step (R x.0 y.0) refl (order-merge_at x xs g left ys h.1)
      where
        step : (r : Ordering) → R x.0 y.0 ≡ r → IsInOrder R (merge_at R f x (merge R f xs) ys)
            → IsInOrder R (match_ordering r (entry_then x.0 (f (Some x.1) None) (merge R f xs (y ∷ ys))) (entry_then x.0 (f (Some x.1) (Some y.1)) (merge R f xs ys)) (entry_then y.0 (f None (Some y.1)) (merge_at R f x (merge R f xs) ys)))
        step Less is rest =
            order-entry_then R x.0 (f (Some x.1) None) (merge R f xs (y ∷ ys))
            (below-merge x.0 xs (y ∷ ys) g (is, below_through R total x.0 y.0 ys is h.0))
            (left (y ∷ ys) h)
        step Equal is rest =
            order-entry_then R x.0 (f (Some x.1) (Some y.1)) (merge R f xs ys)
            (below-merge x.0 xs ys g (below_alike R total x.0 y.0 ys is h.0))
            (left ys h.1)
        step Greater is rest =
            let less : R y.0 x.0 ≡ Less = total.antisymm y.0 x.0 ∙ ap ordering_reverse is in
            order-entry_then R y.0 (f None (Some y.1)) (merge_at R f x (merge R f xs) ys)
            (below-merge_at y.0 x (merge R f xs) less (λ zs below. below-merge y.0 xs zs (below_through R total y.0 x.0 xs less g) below) ys h.0)
            rest

    pub IsInOrder-merge : (xs : List (K × X)) (ys : List (K × Y)) → IsInOrder R xs → IsInOrder R ys → IsInOrder R (merge R f xs ys)
    IsInOrder-merge [] ys g h = order-right_only ys h
    IsInOrder-merge (x ∷ xs) ys g h = order-merge_at x xs g.0 (λ zs order. IsInOrder-merge xs zs g.1 order) ys h

    -- ---- what a merge has at a key

    module _ (nothing : f None None ≡ None) where
      -- the key of an entry that comes before all others finds that entry's value
      here : (q key : K) (z : Option Z) (rest : List (K × Z)) (x : Option X) (y : Option Y) → eq_by_cmp R q key ≡ true
          → find R q rest ≡ f x y → x ≡ None → y ≡ None → find R q (entry_then key z rest) ≡ z
      here q key z rest x y same found no_x no_y = same-entry_then R q key z rest same (found ∙ (λ i. f (no_x i) (no_y i)) ∙ nothing)

      find-right_only : (q : K) (ys : List (K × Y)) → IsInOrder R ys → find R q (right_only R f ys) ≡ f None (find R q ys)
      find-right_only q [] h = sym nothing
      find-right_only q (y ∷ ys) h = step (R q y.0) refl (find-right_only q ys h.1)
        where
          step : (r : Ordering) → R q y.0 ≡ r → find R q (right_only R f ys) ≡ f None (find R q ys)
              → find R q (entry_then y.0 (f None (Some y.1)) (right_only R f ys)) ≡ f None (cond (is_eq r) (Some y.1) (find R q ys))
          step Less is rest = other-entry_then R q y.0 (f None (Some y.1)) (right_only R f ys) (ap is_eq is) ∙ rest
          step Equal is rest =
              here q y.0 (f None (Some y.1)) (right_only R f ys) None (find R q ys) (ap is_eq is) rest refl (find_below R total q ys (below_alike R total q y.0 ys is h.0))
          step Greater is rest = other-entry_then R q y.0 (f None (Some y.1)) (right_only R f ys) (ap is_eq is) ∙ rest

      -- where the key is that of an entry, the entry's value, else what the others have
      abbrev found_at : {A : Type 0} → Ordering → A → Option A → Option A
      found_at r a rest = cond (is_eq r) (Some a) rest

      find-merge_at : (q : K) (x : K × X) (xs : List (K × X)) → IsBelowAll R x.0 xs
          → ((zs : List (K × Y)) → IsInOrder R zs → find R q (merge R f xs zs) ≡ f (find R q xs) (find R q zs))
          → (ys : List (K × Y)) → IsInOrder R ys → find R q (merge_at R f x (merge R f xs) ys) ≡ f (find R q (x ∷ xs)) (find R q ys)
      find-merge_at q x xs g left [] h = step (R q x.0) refl
        where
          step : (r : Ordering) → R q x.0 ≡ r
              → find R q (entry_then x.0 (f (Some x.1) None) (merge R f xs [])) ≡ f (found_at r x.1 (find R q xs)) None
          step Less is = other-entry_then R q x.0 (f (Some x.1) None) (merge R f xs []) (ap is_eq is) ∙ left [] tt
          step Equal is =
              here q x.0 (f (Some x.1) None) (merge R f xs []) (find R q xs) None (ap is_eq is) (left [] tt) (find_below R total q xs (below_alike R total q x.0 xs is g)) refl
          step Greater is = other-entry_then R q x.0 (f (Some x.1) None) (merge R f xs []) (ap is_eq is) ∙ left [] tt
      find-merge_at q x xs g left (y ∷ ys) h = step (R x.0 y.0) refl (find-merge_at q x xs g left ys h.1)
        where
          -- no left entry and no right one is at the key
          no_left : R q x.0 ≡ Equal → find R q xs ≡ None
          no_left is = find_below R total q xs (below_alike R total q x.0 xs is g)

          -- the left entry comes first
          first_left : R x.0 y.0 ≡ Less → (r : Ordering) → R q x.0 ≡ r
              → find R q (entry_then x.0 (f (Some x.1) None) (merge R f xs (y ∷ ys))) ≡ f (found_at r x.1 (find R q xs)) (find R q (y ∷ ys))
          first_left less Less is = other-entry_then R q x.0 (f (Some x.1) None) (merge R f xs (y ∷ ys)) (ap is_eq is) ∙ left (y ∷ ys) h
          first_left less Greater is = other-entry_then R q x.0 (f (Some x.1) None) (merge R f xs (y ∷ ys)) (ap is_eq is) ∙ left (y ∷ ys) h
          first_left less Equal is =
              let before : R q y.0 ≡ Less = total.congr q x.0 y.0 is ∙ less in
              let none : find R q (y ∷ ys) ≡ None = find_below R total q (y ∷ ys) (before, below_through R total q y.0 ys before h.0) in
              here q x.0 (f (Some x.1) None) (merge R f xs (y ∷ ys)) (find R q xs) (find R q (y ∷ ys)) (ap is_eq is) (left (y ∷ ys) h) (no_left is) none
              ∙ ap (f (Some x.1)) (sym none)

          -- both are at one key
          first_both : R x.0 y.0 ≡ Equal → (r : Ordering) → R q x.0 ≡ r
              → find R q (entry_then x.0 (f (Some x.1) (Some y.1)) (merge R f xs ys)) ≡ f (found_at r x.1 (find R q xs)) (found_at r y.1 (find R q ys))
          first_both same Less is = other-entry_then R q x.0 (f (Some x.1) (Some y.1)) (merge R f xs ys) (ap is_eq is) ∙ left ys h.1
          first_both same Greater is = other-entry_then R q x.0 (f (Some x.1) (Some y.1)) (merge R f xs ys) (ap is_eq is) ∙ left ys h.1
          first_both same Equal is =
              let level : R q y.0 ≡ Equal = total.congr q x.0 y.0 is ∙ same in
              here q x.0 (f (Some x.1) (Some y.1)) (merge R f xs ys) (find R q xs) (find R q ys) (ap is_eq is) (left ys h.1) (no_left is) (find_below R total q ys (below_alike R total q y.0 ys level h.0))

          -- the right entry comes first
          first_right : R x.0 y.0 ≡ Greater → find R q (merge_at R f x (merge R f xs) ys) ≡ f (find R q (x ∷ xs)) (find R q ys)
              → (r : Ordering) → R q y.0 ≡ r
              → find R q (entry_then y.0 (f None (Some y.1)) (merge_at R f x (merge R f xs) ys)) ≡ f (find R q (x ∷ xs)) (found_at r y.1 (find R q ys))
          first_right greater rest Less is =
              other-entry_then R q y.0 (f None (Some y.1)) (merge_at R f x (merge R f xs) ys) (ap is_eq is) ∙ rest
          first_right greater rest Greater is =
              other-entry_then R q y.0 (f None (Some y.1)) (merge_at R f x (merge R f xs) ys) (ap is_eq is) ∙ rest
          first_right greater rest Equal is =
              let less : R y.0 x.0 ≡ Less = total.antisymm y.0 x.0 ∙ ap ordering_reverse greater in
              let before : R q x.0 ≡ Less = total.congr q y.0 x.0 is ∙ less in
              let none : find R q (x ∷ xs) ≡ None = find_below R total q (x ∷ xs) (before, below_through R total q x.0 xs before g) in
              here q y.0 (f None (Some y.1)) (merge_at R f x (merge R f xs) ys) (find R q (x ∷ xs)) (find R q ys) (ap is_eq is) rest none (find_below R total q ys (below_alike R total q y.0 ys is h.0))
              ∙ ap (λ a. f a (Some y.1)) (sym none)

          step : (r : Ordering) → R x.0 y.0 ≡ r → find R q (merge_at R f x (merge R f xs) ys) ≡ f (find R q (x ∷ xs)) (find R q ys)
              → find R q (match_ordering r (entry_then x.0 (f (Some x.1) None) (merge R f xs (y ∷ ys))) (entry_then x.0 (f (Some x.1) (Some y.1)) (merge R f xs ys)) (entry_then y.0 (f None (Some y.1)) (merge_at R f x (merge R f xs) ys)))
              ≡ f (find R q (x ∷ xs)) (find R q (y ∷ ys))
          step Less is rest = first_left is (R q x.0) refl
          step Equal is rest =
              first_both is (R q x.0) refl ∙ ap (λ r. f (find R q (x ∷ xs)) (found_at r y.1 (find R q ys))) (alike_right total x.0 y.0 q is)
          step Greater is rest = first_right is rest (R q y.0) refl

      -- a merge has at a key what f gives of what the two lists have there
      pub find-merge : (q : K) (xs : List (K × X)) (ys : List (K × Y)) → IsInOrder R xs → IsInOrder R ys
          → find R q (merge R f xs ys) ≡ f (find R q xs) (find R q ys)
      find-merge q [] ys g h = find-right_only q ys h
      find-merge q (x ∷ xs) ys g h = find-merge_at q x xs g.0 (λ zs order. find-merge q xs zs g.1 order) ys h
