-- The ranges of the lists, as tests.
--     in_range_where_true, true_in_range      the test of FullKeepCnt decides its range
use Rattle.std.proofs.Common.{◌≡◌, ℕ, nat_le, Bool, true, ◌&&◌, List, [], ◌∷◌, length, refl}
use Rattle.std.specs.List.{AllByRecursion, list_all}
use Rattle.std.specs.Cmp.{first_so, second_so}
use Rattle.std.proofs.lemmas.Bool.{leb-true, le-leb}
use Rattle.backup_rules.specs.Ranges.{IsKeepCount, IsKeepCounts, are_keep_counts}

both : (a b : Bool) → a ≡ true → b ≡ true → (a && b) ≡ true
both a b is too = cc

each_small : (counts : List ℕ) → list_all (λ n. nat_le n 1000) counts ≡ true → AllByRecursion IsKeepCount counts
each_small [] so = tt
each_small (n ∷ counts) so = (leb-true n 1000 (first_so (nat_le n 1000) (list_all (λ n. nat_le n 1000) counts) so), each_small counts (second_so (nat_le n 1000) (list_all (λ n. nat_le n 1000) counts) so))

all_small : (counts : List ℕ) → AllByRecursion IsKeepCount counts → list_all (λ n. nat_le n 1000) counts ≡ true
all_small [] so = refl
all_small (n ∷ counts) so = both (nat_le n 1000) (list_all (λ n. nat_le n 1000) counts) (le-leb n 1000 so.0) (all_small counts so.1)

module _ (counts : List ℕ) where
  abbrev some : Bool
  some = nat_le 1 (length counts)

  abbrev few : Bool
  few = nat_le (length counts) 16

  abbrev small : Bool
  small = list_all (λ n. nat_le n 1000) counts

  pub in_range_where_true : are_keep_counts counts ≡ true → IsKeepCounts counts
  in_range_where_true so = let front = first_so (some && few) small so in record {
    some = leb-true 1 (length counts) (first_so some few front);
    few = leb-true (length counts) 16 (second_so some few front);
    each = each_small counts (second_so (some && few) small so);
  }

  pub true_in_range : IsKeepCounts counts → are_keep_counts counts ≡ true
  true_in_range is = both (some && few) small (both some few (le-leb 1 (length counts) is.some) (le-leb (length counts) 16 is.few)) (all_small counts is.each)
