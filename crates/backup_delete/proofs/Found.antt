-- A search in sorted numbers finds one exactly if it is among them.
use Rattle.std.specs.Prelude.{◌≡◌, ℕ, ◌<◌, ◌≤◌, nat_lt, ◌==◌, Bool, true, false, List, length, Result, Ok, Err, is_ok}
use Rattle.std.specs.List.Sorted.{IsBinarySearchResult, IsPermutation, IsSorted}
use Rattle.std.specs.Ordering.{nat_cmp}
use Rattle.std.proofs.Common.{refl, sym, ap, subst, ◌∙◌, get_or, arith}
use Rattle.std.proofs.lemmas.Bool.Decides.{nat_tests}
use Rattle.std.proofs.lemmas.List.Folds.{list_any_at, list_any_none}
use Rattle.std.proofs.lemmas.List.Sorted.{searched, list_any-IsPermutation, IsNonDecreasingBy-from_sort}
use Rattle.std.proofs.lemmas.Grind.{get_or_default_zero}
use Rattle.backup_delete.specs.Trees.{is_gone, AreSorted}

same_test : (m n : ℕ) → m ≡ n → (m == n) ≡ true
same_test m n e = grind (arith, nat_tests)

below_test : (m n : ℕ) → m < n → (m == n) ≡ false
below_test m n e = grind (arith, nat_tests)

above_test : (m n : ℕ) → n < m → (m == n) ≡ false
above_test m n e = grind (arith, nat_tests)

in_sorted : (sorted : List ℕ) (number : ℕ) (r : Result ℕ ℕ) → IsBinarySearchResult (λ y. nat_cmp y number) sorted r
    → ((i j : ℕ) → i ≤ j → j < length sorted → get_or sorted i 0 ≤ get_or sorted j 0) → is_ok r ≡ is_gone sorted number
in_sorted sorted number (Ok i) found rise =
    let at = searched sorted number (Ok i) found rise in
    sym (list_any_at (λ other. other == number) sorted i 0 at.0 (same_test (get_or sorted i 0) number at.1))
in_sorted sorted number (Err i) found rise =
    let at = searched sorted number (Err i) found rise in
    sym (list_any_none (λ other. other == number) sorted (λ k d within. ap (λ m. m == number) (get_or_default_zero sorted k d within)
    ∙ step k within (nat_lt k i) refl at.1 at.2))
  where
    step : (k : ℕ) → k < length sorted → (b : Bool) → nat_lt k i ≡ b → ((m : ℕ) → m < i → get_or sorted m 0 < number)
        → ((m : ℕ) → i ≤ m → m < length sorted → number < get_or sorted m 0) → (get_or sorted k 0 == number) ≡ false
    step k within true e less more = below_test (get_or sorted k 0) number (less k (grind (arith, nat_tests)))
    step k within false e less more = above_test (get_or sorted k 0) number (more k (grind (arith, nat_tests)) within)

pub found_is : (numbers sorted : List ℕ) (number : ℕ) (slice : List ℕ) (r : Result ℕ ℕ) → AreSorted numbers sorted → slice ≡ sorted
    → IsBinarySearchResult (λ y. nat_cmp y number) slice r → is_ok r ≡ is_gone numbers number
found_is numbers sorted number slice r are same found =
    in_sorted sorted number r (subst (λ (xs : List ℕ). IsBinarySearchResult (λ y. nat_cmp y number) xs r) same found) (λ i j low high. are.rise i j 0 low high)
    ∙ sym (list_any-IsPermutation (λ other. other == number) numbers sorted are.same)

pub made_sorted : (numbers first sorted : List ℕ) → first ≡ numbers → IsPermutation first sorted → IsSorted nat_cmp sorted → AreSorted numbers sorted
made_sorted numbers first sorted is moved rise = record {
  same = subst (λ (xs : List ℕ). IsPermutation xs sorted) is moved;
  rise = IsNonDecreasingBy-from_sort (λ n. n) sorted rise;
}
