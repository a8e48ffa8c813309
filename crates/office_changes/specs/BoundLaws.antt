-- Counts stay far below the greatest number that their file can hold.
--     few_occurrences      rows name a content no more often than there are rows
--     few_backups      a host has fewer backups than numbers
--     length-map_values      values that change leave the length
--     few_stored, few_counted      how often the tables of a host's backups name a content
--     few_counted_in      how often all that is counted of the host does
use Rattle.std.specs.Prelude.{◌≡◌, ℕ, zero, suc, ◌+◌, ◌-◌, ◌*◌, ◌^◌, ◌<◌, ◌≤◌, Bool, true, false, List, [], ◌∷◌, length, Option, Some, None, IfSome, slice_get, if◌then◌else◌}
use Rattle.std.proofs.Common.{refl, sym, ap, ◌∙◌, arith}
use Rattle.std.specs.Ordering.{match_ordering}
use Rattle.std.specs.declared.cmp.Ordering.{Ordering}
use Rattle.std.specs.declared.cmp.Ordering.TheVariants.{Less, Equal, Greater}
use Rattle.disk_trait.specs.declared.ids.PoolId.{PoolId}
use Rattle.attr_records.specs.Paths.{path_cmp}
use Rattle.ordered_lists.specs.Merge.{entry_then, right_only, merge_at, merge}
use Rattle.merge_view.specs.Views.{Rows, reverse, difference}
use Rattle.stored_trees.specs.Values.{map_values}
use Rattle.stored_trees.specs.Occurrences.{names, occurrences}
use Rattle.ref_counts.specs.Numbers.{total}
use Rattle.ref_counts.specs.Stored.{Backup as StoredBackup, StoredHost, stored_before, stored, of_partial, counted}
use Rattle.ref_counts.specs.StoredLaws.{total-counted}
use Rattle.office_model.specs.Office.{Backup, Partial, Host, IsTree, AreNumbered, number_limit}
use Rattle.office_model.specs.Pairs.{AtEachPair}
use Rattle.office_model.specs.PairsLaws.{other_at}
use Rattle.office_files.specs.Hosts.{IsShown, StandsPartial}

-- ---- a merge has no more entries than both lists

module _ {K Z : Type 0} where
  few_then : (key : K) (z : Option Z) (rest : List (K × Z)) → length (entry_then key z rest) ≤ 1 + length rest
  few_then key None rest = omega arith
  few_then key (Some z) rest = omega arith

  one_more : (key : K) (z : Option Z) (rest : List (K × Z)) (n m : ℕ) → length rest ≤ n → 1 + n ≤ m → length (entry_then key z rest) ≤ m
  one_more key z rest n m few more = omega (arith, few_then key z rest, few, more)

module _ {K X Y Z : Type 0} (R : K → K → Ordering) (f : Option X → Option Y → Option Z) where
  few_right : (ys : List (K × Y)) → length (right_only R f ys) ≤ length ys
  few_right [] = omega arith
  few_right (y ∷ ys) = one_more y.0 (f None (Some y.1)) (right_only R f ys) (length ys) (length (y ∷ ys)) (few_right ys) (omega arith)

  few_at : (x : K × X) (left : List (K × Y) → List (K × Z)) (n : ℕ) → ((zs : List (K × Y)) → length (left zs) ≤ n + length zs) → (ys : List (K × Y))
      → length (merge_at R f x left ys) ≤ 1 + n + length ys
  few_at x left n few [] = one_more x.0 (f (Some x.1) None) (left []) (n + 0) (1 + n + 0) (few []) (omega arith)
  few_at x left n few (y ∷ ys) = step (R x.0 y.0) (few_at x left n few ys)
    where
      step : (r : Ordering) → length (merge_at R f x left ys) ≤ 1 + n + length ys
          → length (match_ordering r (entry_then x.0 (f (Some x.1) None) (left (y ∷ ys))) (entry_then x.0 (f (Some x.1) (Some y.1)) (left ys))
          (entry_then y.0 (f None (Some y.1)) (merge_at R f x left ys))) ≤ 1 + n + length (y ∷ ys)
      step Less rest =
          one_more x.0 (f (Some x.1) None) (left (y ∷ ys)) (n + length (y ∷ ys)) (1 + n + length (y ∷ ys)) (few (y ∷ ys)) (omega arith)
      step Equal rest = one_more x.0 (f (Some x.1) (Some y.1)) (left ys) (n + length ys) (1 + n + length (y ∷ ys)) (few ys) (omega arith)
      step Greater rest =
          one_more y.0 (f None (Some y.1)) (merge_at R f x left ys) (1 + n + length ys) (1 + n + length (y ∷ ys)) rest (omega arith)

  few_merged : (xs : List (K × X)) (ys : List (K × Y)) → length (merge R f xs ys) ≤ length xs + length ys
  few_merged [] ys = let right = few_right ys in omega (arith, right)
  few_merged (x ∷ xs) ys = let all = few_at x (merge R f xs) (length xs) (λ zs. few_merged xs zs) ys in omega (arith, all)

-- ---- tables

pub few_occurrences : (id : PoolId) (rows : Rows) → occurrences id rows ≤ length rows
few_occurrences id [] = omega arith
few_occurrences id (row ∷ rows) = let one = step (names id row.1) in let rest = few_occurrences id rows in omega (arith, one, rest)
  where
    step : (b : Bool) → (if b then 1 else 0) ≤ 1
    step true = omega arith
    step false = omega arith

-- the rows of a tree are few
abbrev pub AreFew : StoredBackup → Type 0
AreFew backup = length backup.rows ≤ 1048576

few_before : (backup : StoredBackup) (newer : Rows) → AreFew backup → length newer ≤ 1048576 → length (stored_before backup newer) ≤ 2097152
few_before backup newer few more = step backup.filled
  where
    step : (b : Bool) → length (if b then backup.rows else reverse backup.rows newer) ≤ 2097152
    step true = omega (arith, few)
    step false = let both = few_merged path_cmp difference backup.rows newer in omega (arith, few, more, both)

few_total : (id : PoolId) (backups : List StoredBackup) → ((i : ℕ) (b : StoredBackup) → slice_get backups i ≡ Some b → AreFew b)
    → total id (stored backups) ≤ length backups * 2097152
few_total id [] few = omega arith
few_total id (backup ∷ []) few =
    let here = few 0 backup refl in let all = few_occurrences id backup.rows in omega (arith, here, all)
few_total id (backup ∷ next ∷ more) few =
    let one = few_occurrences id (stored_before backup next.rows) in
    let size = few_before backup next.rows (few 0 backup refl) (few 1 next refl) in
    let rest = few_total id (next ∷ more) (λ i b e. few (suc i) b e) in
    omega (arith, one, size, rest)

-- ---- backups

number_above : (next : ℕ) (backups : List Backup) → AreNumbered next backups → (i : ℕ) (b : Backup) → slice_get backups i ≡ Some b
    → i ≤ b.line.number
number_above next backups numbered zero b e = omega arith
number_above next backups numbered (suc i) b e =
    let before = before_at backups i b e in
    let less = numbered.rise i (suc i) before.0 b (omega arith) before.1 e in
    let rest = number_above next backups numbered i before.0 before.1 in
    omega (arith, less, rest)
  where
    before_at : (xs : List Backup) (i : ℕ) (b : Backup) → slice_get xs (suc i) ≡ Some b → (a : Backup) × (slice_get xs i ≡ Some a)
    before_at [] i b e = absurd cc
    before_at (x ∷ xs) zero b e = (x, refl)
    before_at (x ∷ xs) (suc i) b e = before_at xs i b e

last_of : (xs : List Backup) → 0 < length xs → (b : Backup) × (slice_get xs (length xs - 1) ≡ Some b)
last_of [] h = absurd (omega (arith, h))
last_of (x ∷ []) h = (x, refl)
last_of (x ∷ y ∷ ys) h =
    let rest = last_of (y ∷ ys) (omega arith) in
    let same : length (x ∷ y ∷ ys) - 1 ≡ suc (length (y ∷ ys) - 1) = omega arith in
    (rest.0, ap (slice_get (x ∷ y ∷ ys)) same ∙ rest.1)

-- a host has at most as many backups as there are numbers below its next one
pub few_backups : (next : ℕ) (backups : List Backup) → AreNumbered next backups → length backups ≤ next
few_backups next [] numbered = omega arith
few_backups next (b ∷ bs) numbered =
    let last = last_of (b ∷ bs) (omega arith) in
    let above = number_above next (b ∷ bs) numbered (length (b ∷ bs) - 1) last.0 last.1 in
    let below = numbered.below (length (b ∷ bs) - 1) last.0 last.1 in
    omega (arith, above, below)

pub length-map_values : {K X Y : Type 0} (f : X → Y) (xs : List (K × X)) → length (map_values f xs) ≡ length xs
length-map_values f [] = refl
length-map_values f (x ∷ xs) = ap suc (length-map_values f xs)

pub few_stored : (given : PoolId → Type 0) (contents : PoolId → List ℕ) (next : ℕ) (backups : List Backup) (shown : List StoredBackup)
    → AreNumbered next backups → next ≤ number_limit → AtEachPair (λ i. IsShown given contents) backups shown → (id : PoolId)
    → total id (stored shown) ≤ 2 ^ 53
few_stored given contents next backups shown numbered limit pairs id =
    let all = few_total id shown few in
    let many = few_backups next backups numbered in
    let same = pairs.counted in
    omega (arith, all, many, same, limit)
  where
    few : (i : ℕ) (b : StoredBackup) → slice_get shown i ≡ Some b → AreFew b
    few i b e =
        let w = other_at shown backups i b (sym pairs.counted) e in
        let is = pairs.each i w.0 b w.1 e in
        let tree = numbered.trees i w.0 w.1 in
        let size : length w.0.tree ≡ length b.rows = ap length is.tree ∙ length-map_values _ b.rows in
        omega (arith, size, tree.few)

-- how often the tables of a host's backups name a content
pub few_counted : (given : PoolId → Type 0) (contents : PoolId → List ℕ) (next : ℕ) (backups : List Backup) (shown : List StoredBackup)
    → AreNumbered next backups → next ≤ number_limit → AtEachPair (λ i. IsShown given contents) backups shown → (id : PoolId)
    → total id (stored shown) < 2 ^ 64
few_counted given contents next backups shown numbered limit pairs id =
    let few = few_stored given contents next backups shown numbered limit pairs id in omega (arith, few)

few_parked : (given : PoolId → Type 0) (contents : PoolId → List ℕ) (number : ℕ) (partial : Option Partial) (rows : Option Rows)
    (found : Option (List ℕ)) → IfSome partial (λ (partial : Partial). IsTree partial.tree)
    → StandsPartial given contents number partial rows found → (id : PoolId) → total id (of_partial rows) ≤ 1048576
few_parked given contents number None None found tree stands id = omega arith
few_parked given contents number None (Some rows) found tree stands id = absurd stands
few_parked given contents number (Some partial) None found tree stands id = absurd stands
few_parked given contents number (Some partial) (Some rows) found tree stands id =
    let few = few_occurrences id rows in
    let size : length partial.tree ≡ length rows = ap length stands.tree ∙ length-map_values _ rows in
    omega (arith, few, size, tree.few)

-- and those with its partial's
pub few_counted_in : (given : PoolId → Type 0) (contents : PoolId → List ℕ) (number : ℕ) (host : Host) (of : StoredHost) (found : Option (List ℕ))
    → AreNumbered host.next host.backups → host.next ≤ number_limit → IfSome host.partial (λ (partial : Partial). IsTree partial.tree)
    → AtEachPair (λ i. IsShown given contents) host.backups of.backups → StandsPartial given contents number host.partial of.partial found
    → (id : PoolId) → total id (counted of) < 2 ^ 64
few_counted_in given contents number host of found numbered limit tree shown parked id =
    let all = few_stored given contents host.next host.backups of.backups numbered limit shown id in
    let more = few_parked given contents number host.partial of.partial found tree parked id in
    let sum = total-counted id of in
    omega (arith, all, more, sum)
