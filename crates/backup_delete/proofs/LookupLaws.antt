-- A merge that makes nothing of a right entry alone, and of a left one itself or nothing, is what a look-up of each left
-- entry in the right list gives, if both are in order.
use Rattle.std.specs.Prelude.{◌≡◌, Bool, true, false, not, cond, List, [], ◌∷◌, Option, Some, None}
use Rattle.std.specs.declared.cmp.Ordering.{Ordering}
use Rattle.std.specs.declared.cmp.Ordering.TheVariants.{Less, Equal, Greater}
use Rattle.std.specs.Ordering.{match_ordering, is_eq, ordering_reverse}
use Rattle.std.specs.Cmp.{IsTotalOrder, tied_back}
use Rattle.std.specs.FinMap.Entries.{find}
use Rattle.std.specs.List.{filter}
use Rattle.std.proofs.Common.{ℕ, ◌+◌, ◌<◌, ◌≤◌, ◌++◌, length, drop, get_or, refl, sym, ap, ◌∙◌, arith}
use Rattle.std.proofs.lemmas.Grind.{common_steps}
use Rattle.std.proofs.lemmas.List.Elements.{filter-append}
use Rattle.ordered_lists.specs.Order.{IsInOrder, IsBelowAll}
use Rattle.ordered_lists.specs.OrderLaws.{below_through, below_alike, find_below}
use Rattle.ordered_lists.specs.Merge.{entry_then, right_only, merge_at, merge}
use Rattle.attr_records.specs.Paths.{path_cmp}
use Rattle.attr_records.specs.PathLaws.{path_cmp_total}
use Rattle.attr_tables.specs.Records.{is_same_record}
use Rattle.attr_tables.specs.declared.records.Record.{Record}
use Rattle.attr_tables.specs.declared.records.Record.TheVariants.{File, Dir, Link, Deleted}
use Rattle.merge_view.specs.Views.{Rows, needed, trimmed}
use Rattle.backup_delete.specs.Lookups.{differs, is_alone, is_needed, resolved_by_lookup, remaining_by_lookup, trimmed_by_lookup}
use Rattle.backup_delete.specs.RunFolds.{differing, elsewhere, resolved, remaining}

module _ {K X Y : Type 0} (R : K → K → Ordering) (total : IsTotalOrder R) (f : Option X → Option Y → Option X) (test : X → Option Y → Bool) where
  abbrev looked_up : List (K × X) → List (K × Y) → List (K × X)
  looked_up xs ys = filter (λ x. test x.1 (find R x.0 ys)) xs

  -- a right entry before all left ones is found by none of them
  passed : (xs : List (K × X)) (y : K × Y) (ys : List (K × Y)) → IsBelowAll R y.0 xs → looked_up xs (y ∷ ys) ≡ looked_up xs ys
  passed [] y ys h = refl
  passed (x ∷ xs) y ys h =
      ap (λ r. cond (test x.1 (cond (is_eq r) (Some y.1) (find R x.0 ys))) (x ∷ looked_up xs (y ∷ ys)) (looked_up xs (y ∷ ys)))
      (total.antisymm x.0 y.0 ∙ ap ordering_reverse h.0)
      ∙ ap (λ rest. cond (test x.1 (find R x.0 ys)) (x ∷ rest) rest) (passed xs y ys h.1)

  module _ (none : (y : Y) → f None (Some y) ≡ None) (made : (x : X) (y : Option Y) → f (Some x) y ≡ cond (test x y) (Some x) None) where
    right_none : (ys : List (K × Y)) → right_only R f ys ≡ []
    right_none [] = refl
    right_none (y ∷ ys) = ap (λ z. entry_then y.0 z (right_only R f ys)) (none y.1) ∙ right_none ys

    entry_made : (x : K × X) (y : Option Y) (rest : List (K × X))
        → entry_then x.0 (f (Some x.1) y) rest ≡ cond (test x.1 y) (x ∷ rest) rest
    entry_made x y rest = ap (λ z. entry_then x.0 z rest) (made x.1 y) ∙ step (test x.1 y)
      where
        step : (b : Bool) → entry_then x.0 (cond b (Some x.1) None) rest ≡ cond b (x ∷ rest) rest
        step true = refl
        step false = refl

    -- a left entry, whose further ones are looked up
    merged_at : (x : K × X) (xs : List (K × X)) → IsBelowAll R x.0 xs
        → ((zs : List (K × Y)) → IsInOrder R zs → merge R f xs zs ≡ looked_up xs zs)
        → (ys : List (K × Y)) → IsInOrder R ys → merge_at R f x (merge R f xs) ys ≡ looked_up (x ∷ xs) ys
    merged_at x xs below left [] h =
        entry_made x None (merge R f xs []) ∙ ap (λ rest. cond (test x.1 None) (x ∷ rest) rest) (left [] tt)
    merged_at x xs below left (y ∷ ys) h = step (R x.0 y.0) refl (merged_at x xs below left ys h.1)
      where
        step : (r : Ordering) → R x.0 y.0 ≡ r → merge_at R f x (merge R f xs) ys ≡ looked_up (x ∷ xs) ys
            → match_ordering r (entry_then x.0 (f (Some x.1) None) (merge R f xs (y ∷ ys))) (entry_then x.0 (f (Some x.1) (Some y.1)) (merge R f xs ys)) (entry_then y.0 (f None (Some y.1)) (merge_at R f x (merge R f xs) ys))
            ≡ looked_up (x ∷ xs) (y ∷ ys)
        step Less is rest =
            let absent : find R x.0 (y ∷ ys) ≡ None = find_below R total x.0 (y ∷ ys) (is, below_through R total x.0 y.0 ys is h.0) in
            entry_made x None (merge R f xs (y ∷ ys))
            ∙ ap (λ rest. cond (test x.1 None) (x ∷ rest) rest) (left (y ∷ ys) h)
            ∙ ap (λ there. cond (test x.1 there) (x ∷ looked_up xs (y ∷ ys)) (looked_up xs (y ∷ ys))) (sym absent)
        step Equal is rest =
            let before : IsBelowAll R y.0 xs = below_alike R total y.0 x.0 xs (tied_back total x.0 y.0 is) below in
            entry_made x (Some y.1) (merge R f xs ys)
            ∙ ap (λ rest. cond (test x.1 (Some y.1)) (x ∷ rest) rest) (left ys h.1 ∙ sym (passed xs y ys before))
            ∙ ap (λ r. cond (test x.1 (cond (is_eq r) (Some y.1) (find R x.0 ys))) (x ∷ looked_up xs (y ∷ ys)) (looked_up xs (y ∷ ys))) (sym is)
        step Greater is rest =
            let less : R y.0 x.0 ≡ Less = total.antisymm y.0 x.0 ∙ ap ordering_reverse is in
            ap (λ z. entry_then y.0 z (merge_at R f x (merge R f xs) ys)) (none y.1) ∙ rest
            ∙ sym (passed (x ∷ xs) y ys (less, below_through R total y.0 x.0 xs less below))

    pub merge-looked_up : (xs : List (K × X)) (ys : List (K × Y)) → IsInOrder R xs → IsInOrder R ys → merge R f xs ys ≡ looked_up xs ys
    merge-looked_up [] ys g h = right_none ys
    merge-looked_up (x ∷ xs) ys g h = merged_at x xs g.0 (λ zs order. merge-looked_up xs zs g.1 order) ys h

-- the two rules of a run's entries
differing_made : (entry : Record) (there : Option Record) → differing (Some entry) there ≡ cond (differs entry there) (Some entry) None
differing_made entry None = refl
differing_made entry (Some base) = step (is_same_record entry base)
  where
    step : (b : Bool) → cond b None (Some entry) ≡ cond (not b) (Some entry) None
    step true = refl
    step false = refl

elsewhere_made : (entry : Record) (there : Option Record) → elsewhere (Some entry) there ≡ cond (is_alone entry there) (Some entry) None
elsewhere_made entry None = refl
elsewhere_made entry (Some base) = refl

pub resolved_is : (entries table : Rows) → IsInOrder path_cmp entries → IsInOrder path_cmp table
    → resolved entries table ≡ resolved_by_lookup entries table
resolved_is entries table g h =
    merge-looked_up path_cmp path_cmp_total differing differs (λ base. refl) differing_made entries table g h

pub remaining_is : (entries table : Rows) → IsInOrder path_cmp entries → IsInOrder path_cmp table
    → remaining entries table ≡ remaining_by_lookup entries table
remaining_is entries table g h =
    merge-looked_up path_cmp path_cmp_total elsewhere is_alone (λ base. refl) elsewhere_made entries table g h

-- the rule of the entries that change a tree
other_made : (entry : Record) (same : Bool) → cond same None (Some entry) ≡ cond (not same) (Some entry) None
other_made entry true = refl
other_made entry false = refl

needed_made : (entry : Record) (there : Option Record) → needed (Some entry) there ≡ cond (is_needed entry there) (Some entry) None
needed_made Deleted None = refl
needed_made Deleted (Some base) = refl
needed_made (File file) None = refl
needed_made (File file) (Some base) = other_made (File file) (is_same_record (File file) base)
needed_made (Dir dir) None = refl
needed_made (Dir dir) (Some base) = other_made (Dir dir) (is_same_record (Dir dir) base)
needed_made (Link link) None = refl
needed_made (Link link) (Some base) = other_made (Link link) (is_same_record (Link link) base)

pub trimmed_is : (tree entries : Rows) → IsInOrder path_cmp tree → IsInOrder path_cmp entries
    → trimmed tree entries ≡ trimmed_by_lookup tree entries
trimmed_is tree entries h g =
    merge-looked_up path_cmp path_cmp_total needed is_needed (λ base. refl) needed_made entries tree g h

-- one entry more of a loop over entries, and its end
module _ {A : Type 0} (p : A → Bool) where
  pub one_more : (xs so_far more : List A) (i : ℕ) (x : A) → i < length xs → x ≡ get_or xs i x → so_far ++ filter p (drop i xs) ≡ filter p xs
      → more ≡ so_far ++ filter p (x ∷ []) → more ++ filter p (drop (i + 1) xs) ≡ filter p xs
  one_more xs so_far more i x within is told more_is = grind (arith, common_steps, filter-append)

  pub all_told : (xs so_far : List A) (i : ℕ) → length xs ≤ i → so_far ++ filter p (drop i xs) ≡ filter p xs → so_far ≡ filter p xs
  all_told xs so_far i end told = grind (arith, common_steps)
