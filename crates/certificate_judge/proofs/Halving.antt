-- What a search by halving tells of ids that rise.
use Rattle.std.specs.Prelude.{◌≡◌, ℕ, zero, suc, ◌+◌, ◌<◌, ◌≤◌, Bool, true, false, List, [], ◌∷◌, length, take, map, Option, Some, None, if◌then◌else◌}
use Rattle.std.specs.declared.cmp.Ordering.{Ordering}
use Rattle.std.specs.declared.cmp.Ordering.TheVariants.{Less, Equal, Greater}
use Rattle.std.specs.Ordering.{nat_cmp, is_eq, is_lt, ordering_reverse}
use Rattle.std.specs.Cmp.{tied_itself, unsigned_ties}
use Rattle.std.specs.Cmp.Lexicographic.{nat_list_cmp_total, lists_ties}
use Rattle.std.specs.FinMap.{nat_cmp-IsAntisymmetric, slice_cmp-IsAntisymmetric}
use Rattle.std.specs.List.{AllByRecursion, AllWithin, HoldsAt}
use Rattle.std.specs.List.Sorted.{IsSortedBy, IsBinarySearchResult}
use Rattle.std.specs.declared.result.Result.TheVariants.{Err}
use Rattle.std.proofs.Common.{refl, sym, ap, ◌∙◌, get_or, arith}
use Rattle.std.proofs.lemmas.List.Sorted.{searchable_from_sorted}
use Rattle.certificates.specs.Certificate.{Id}
use Rattle.certificates.specs.Layout.{id_cmp}
use Rattle.certificate_judge.specs.Faults.{is_same}
use Rattle.certificates.specs.PrintLaws.{AreRising}
use Rattle.certificate_judge.specs.Judging.{place, one_more, ids_in}

-- ---- ids that are one, and that aren't

pub same_by_cmp : (a b : Id) → is_same a b ≡ is_eq (id_cmp a b)
same_by_cmp a b = lists_ties nat_cmp unsigned_ties a b

pub same_itself : (a : Id) → is_same a a ≡ true
same_itself a = same_by_cmp a a ∙ ap is_eq (tied_itself nat_list_cmp_total a)

pub same_from_equal : (a b : Id) → id_cmp a b ≡ Equal → a ≡ b
same_from_equal a b e = slice_cmp-IsAntisymmetric nat_cmp-IsAntisymmetric a b e

equal_from_test : (r : Ordering) → is_eq r ≡ true → r ≡ Equal
equal_from_test Less e = cc
equal_from_test Equal e = refl
equal_from_test Greater e = cc

pub same_from_test : (a b : Id) → is_same a b ≡ true → a ≡ b
same_from_test a b e = same_from_equal a b (equal_from_test (id_cmp a b) (sym (same_by_cmp a b) ∙ e))

pub apart_below : (a b : Id) → id_cmp a b ≡ Less → is_same a b ≡ false
apart_below a b less = same_by_cmp a b ∙ ap is_eq less

pub apart_above : (a b : Id) → id_cmp a b ≡ Greater → is_same a b ≡ false
apart_above a b greater = same_by_cmp a b ∙ ap is_eq greater

pub flipped : (a b : Id) (r : Ordering) → id_cmp a b ≡ r → id_cmp b a ≡ ordering_reverse r
flipped a b r is = nat_list_cmp_total.antisymm b a ∙ ap ordering_reverse is

-- ---- a search

each_in : {A B : Type 0} (P : B → Type 0) (f : A → B) (xs : List A) (i : ℕ) (d : A) → AllByRecursion P (map f xs) → i < length xs → P (f (get_or xs i d))
each_in P f [] i d all within = absurd (omega arith)
each_in P f (x ∷ xs) zero d all within = all.0
each_in P f (x ∷ xs) (suc i) d all within = each_in P f xs i d all.1 (omega arith)

sorted : (xs : List (List ℕ)) → AreRising (ids_in xs) → IsSortedBy (λ a b. is_lt (id_cmp (take 18 a) (take 18 b))) xs
sorted [] h k d low high = absurd (omega arith)
sorted (x ∷ []) h k d low high = absurd (omega arith)
sorted (x ∷ y ∷ xs) h zero d low high = ap is_lt (flipped (take 18 x) (take 18 y) Less h.0.0)
sorted (x ∷ y ∷ xs) h (suc k) d low high =
    let next : suc k + 1 ≡ suc (k + 1) = omega arith in
    ap (λ (n : ℕ). is_lt (id_cmp (take 18 (get_or (x ∷ y ∷ xs) n d)) (take 18 (get_or (y ∷ xs) k d)))) next
    ∙ sorted (y ∷ xs) h.1 k d (omega arith) (omega arith)

module _ (q : Id) where
  placed : (b : Bool) (rest : Option ℕ) → b ≡ false → (if b then Some 0 else one_more rest) ≡ one_more rest
  placed true rest e = cc
  placed false rest e = refl

  nowhere : (xs : List (List ℕ)) (i : ℕ) → i ≤ length xs → AllWithin (λ y. id_cmp (take 18 y) q ≡ Less) xs 0 i
      → AllWithin (λ y. id_cmp (take 18 y) q ≡ Greater) xs i (length xs) → place q (ids_in xs) ≡ None
  nowhere [] i within below above = refl
  nowhere (x ∷ xs) zero within below above =
      placed (is_same q (take 18 x)) (place q (ids_in xs)) (apart_below q (take 18 x) (flipped (take 18 x) q Greater (above 0 x (omega arith) (omega arith))))
      ∙ ap one_more (nowhere xs 0 (omega arith) (λ k d low high. absurd (omega arith)) (λ k d low high. above (suc k) d (omega arith) (omega arith)))
  nowhere (x ∷ xs) (suc i) within below above =
      placed (is_same q (take 18 x)) (place q (ids_in xs)) (apart_above q (take 18 x) (flipped (take 18 x) q Less (below 0 x (omega arith) (omega arith))))
      ∙ ap one_more (nowhere xs i (omega arith) (λ k d low high. below (suc k) d (omega arith) (omega arith)) (λ k d low high. above (suc k) d (omega arith) (omega arith)))

  somewhere : (xs : List (List ℕ)) (i : ℕ) → AreRising (ids_in xs) → i < length xs → HoldsAt (λ y. id_cmp (take 18 y) q ≡ Equal) xs i
      → place q (ids_in xs) ≡ Some i
  somewhere [] i rising within at = absurd (omega arith)
  somewhere (x ∷ xs) zero rising within at =
      let same : take 18 x ≡ q = same_from_equal (take 18 x) q (at x) in
      ap (λ (b : Bool). if b then Some 0 else one_more (place q (ids_in xs))) (ap (is_same q) same ∙ same_itself q)
  somewhere (x ∷ xs) (suc i) rising within at =
      let same : take 18 (get_or xs i x) ≡ q = same_from_equal (take 18 (get_or xs i x)) q (at x) in
      let less : id_cmp (take 18 x) q ≡ Less =
      ap (id_cmp (take 18 x)) (sym same) ∙ each_in (λ later. id_cmp (take 18 x) later ≡ Less) (take 18) xs i x rising.0 (omega arith) in
      let next : i + 1 ≡ suc i = omega arith in
      placed (is_same q (take 18 x)) (place q (ids_in xs)) (apart_above q (take 18 x) (flipped (take 18 x) q Less less))
      ∙ ap one_more (somewhere xs i rising.1 (omega arith) at) ∙ ap Some next

  pub found : (xs : List (List ℕ)) (i : ℕ) → AreRising (ids_in xs) → i < length xs → HoldsAt (λ y. id_cmp (take 18 y) q ≡ Equal) xs i
      → Some i ≡ place q (ids_in xs)
  found xs i rising within at = sym (somewhere xs i rising within at)

  pub missing : (xs : List (List ℕ)) (i : ℕ) → AreRising (ids_in xs) → i ≤ length xs
      → IsBinarySearchResult (λ y. id_cmp (take 18 y) q) xs (Err i) → None ≡ place q (ids_in xs)
  missing xs i rising within point =
      let parts = point (searchable_from_sorted nat_list_cmp_total (take 18) xs q (sorted xs rising)) in
      sym (nowhere xs i within parts.0 parts.1)

-- the test is the same both ways
pub not_same : (a b : Id) → is_same a b ≡ false → is_same b a ≡ false
not_same a b e = step (is_same b a) refl
  where
    step : (t : Bool) → is_same b a ≡ t → is_same b a ≡ false
    step false is = is
    step true is = absurd (true_false (sym (same_itself a) ∙ ap (is_same a) (sym (same_from_test b a is)) ∙ e))
      where
        true_false : true ≡ false → ⊥
        true_false e = cc
