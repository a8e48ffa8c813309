-- Laws of the rows of a directory.
--     run      they are what stands between the rows that come first and those that are past them
use Rattle.std.specs.Prelude.{◌≡◌, ℕ, zero, suc, ◌<◌, ◌==◌, Bool, true, false, ◌&&◌, ◌||◌, cond, List, [], ◌∷◌, ◌++◌, length, take, drop, Option, Some, None, bytes_eq}
use Rattle.std.specs.List.{filter, list_all, list_any}
use Rattle.std.specs.Option.{option_eq}
use Rattle.std.specs.List.Sorted.{IsPartitionedBy}
use Rattle.std.specs.declared.cmp.Ordering.{Ordering}
use Rattle.std.specs.declared.cmp.Ordering.TheVariants.{Less, Equal, Greater}
use Rattle.std.specs.Ordering.{is_lt, ordering_then, ordering_reverse}
use Rattle.std.specs.Cmp.{first_so, second_so, tied_itself}
use Rattle.std.specs.Cmp.Lexicographic.{bytes_decides}
use Rattle.std.proofs.Common.{refl, sym, ap, ◌∙◌, get_or, arith, append-nil}
use borrow.Author.Tests.{eqb-true}
use Rattle.std.proofs.lemmas.Bool.{true≢false}
use Rattle.std.proofs.lemmas.List.Elements.{filter-append}
use Rattle.ordered_lists.specs.OrderLaws.{below_each, IsInOrder-where_key}
use Rattle.attr_records.specs.Paths.{byte_cmp, path_cmp, parent, is_within}
use Rattle.attr_records.specs.PathLaws.{byte_cmp_total, path_cmp_total, path_cmp_exact, parent-parts, within-itself, within-further, between}
use Rattle.ordered_lists.specs.Order.{IsInOrder, IsBelowAll}
use Rattle.merge_view.specs.Runs.{within_rows, is_child, children, comes_first, row_first}

-- ---- paths within a directory

-- what lies within a directory doesn't come before it
pub within_after : (directory path : List ℕ) → is_within directory path ≡ true → is_lt (path_cmp path directory) ≡ false
within_after [] [] within = refl
within_after [] (b ∷ path) within = refl
within_after (a ∷ directory) [] within = cc
within_after (a ∷ directory) (b ∷ path) within =
    let same : a ≡ b = eqb-true a b (first_so (a == b) (is_within directory path) within) in
    let level : byte_cmp b a ≡ Equal = ap (byte_cmp b) same ∙ tied_itself byte_cmp_total b in
    ap (λ r. is_lt (ordering_then r (path_cmp path directory))) level
    ∙ within_after directory path (second_so (a == b) (is_within directory path) within)

-- what lies within a directory within another lies within that too
pub within_through : (directory middle path : List ℕ) → is_within directory middle ≡ true → is_within middle path ≡ true
    → is_within directory path ≡ true
within_through [] [] path g h = h
within_through [] (m ∷ middle) [] g h = cc
within_through [] (m ∷ middle) (p ∷ path) g h =
    ap (λ byte. byte == 47) (sym (eqb-true m p (first_so (m == p) (is_within middle path) h))) ∙ g
within_through (d ∷ directory) [] path g h = cc
within_through (d ∷ directory) (m ∷ middle) [] g h = cc
within_through (d ∷ directory) (m ∷ middle) (p ∷ path) g h =
    let same : m ≡ p = eqb-true m p (first_so (m == p) (is_within middle path) h) in
    ap (λ b. b && is_within directory path) (ap (λ byte. d == byte) (sym same) ∙ first_so (d == m) (is_within directory middle) g)
    ∙ within_through directory middle path (second_so (d == m) (is_within directory middle) g) (second_so (m == p) (is_within middle path) h)

-- a child is what has the directory, or the root, as its parent
pub child_parent : (directory : Option (List ℕ)) (path : List ℕ) → is_child directory path ≡ true → parent path ≡ directory
child_parent directory path = cases (parent path) directory
  where
    cases : (found wanted : Option (List ℕ)) → option_eq bytes_eq found wanted ≡ true → found ≡ wanted
    cases None None e = refl
    cases None (Some wanted) e = cc
    cases (Some found) None e = cc
    cases (Some found) (Some wanted) e = ap Some ((bytes_decides found wanted).0 e)

-- a child of a directory lies within it
pub child_within : (directory path : List ℕ) → is_child (Some directory) path ≡ true → is_within directory path ≡ true
child_within directory path e =
    let parts = parent-parts path directory (child_parent (Some directory) path e) in
    ap (is_within directory) parts.1 ∙ within-further directory directory parts.0 (within-itself directory)

is_less : (r : Ordering) → is_lt r ≡ true → r ≡ Less
is_less Less e = refl
is_less Equal e = cc
is_less Greater e = cc

-- what comes before a path that comes first comes first too
pub comes_first-before : (past : Bool) (directory a b : List ℕ) → path_cmp a b ≡ Less → comes_first past directory b ≡ true
    → comes_first past directory a ≡ true
comes_first-before past directory a b less first = by_b (is_lt (path_cmp b directory)) refl first
  where
    -- what lies between the directory and what is within it
    by_a : is_within directory b ≡ true → past ≡ true → (r : Ordering) → path_cmp a directory ≡ r
        → (is_lt r || (past && is_within directory a)) ≡ true
    by_a within set Less is = refl
    by_a within set Equal is = (λ i. set i && is_within directory (path_cmp_exact a directory is i)) ∙ within-itself directory
    by_a within set Greater is =
        let after : path_cmp directory a ≡ Less = path_cmp_total.antisymm directory a ∙ ap ordering_reverse is in
        λ i. set i && between directory a b within after less i

    by_b : (t : Bool) → is_lt (path_cmp b directory) ≡ t → (t || (past && is_within directory b)) ≡ true
        → comes_first past directory a ≡ true
    by_b true is h =
        ap (λ r. is_lt r || (past && is_within directory a)) (path_cmp_total.trans a b directory less (is_less (path_cmp b directory) is))
    by_b false is h = by_a (second_so past (is_within directory b) h) (first_so past (is_within directory b) h) (path_cmp a directory) refl

-- no row that comes first stands after one that doesn't
pub parted : {X : Type 0} (past : Bool) (directory : List ℕ) (rows : List (List ℕ × X)) → IsInOrder path_cmp rows
    → IsPartitionedBy (row_first past directory) rows
parted past directory [] h i j d up within first = absurd (omega arith)
parted past directory (row ∷ rows) h zero zero d up within first = first
parted past directory (row ∷ rows) h zero (suc j) d up within first =
    comes_first-before past directory row.0 (get_or rows j d).0 (below_each path_cmp row.0 j rows d h.0 (omega arith)) first
parted past directory (row ∷ rows) h (suc i) zero d up within first = absurd (omega arith)
parted past directory (row ∷ rows) h (suc i) (suc j) d up within first =
    parted past directory rows h.1 i j d (omega arith) (omega arith) first

-- ---- filters of parts

module _ {A : Type 0} (p q : A → Bool) where
  -- p holds of none that are all q, where no q is p
  pub none_where_all : ((a : A) → q a ≡ true → p a ≡ false) → (xs : List A) → list_all q xs ≡ true → filter p xs ≡ []
  none_where_all apart [] h = refl
  none_where_all apart (x ∷ xs) h =
      ap (λ b. cond b (x ∷ filter p xs) (filter p xs)) (apart x (first_so (q x) (list_all q xs) h))
      ∙ none_where_all apart xs (second_so (q x) (list_all q xs) h)

  -- nor of those that are no q, where each p is q
  pub none_where_none : ((a : A) → p a ≡ true → q a ≡ true) → (xs : List A) → list_any q xs ≡ false → filter p xs ≡ []
  none_where_none apart [] h = refl
  none_where_none apart (x ∷ xs) h = step (q x) refl (p x) refl h (none_where_none apart xs)
    where
      step : (b : Bool) → q x ≡ b → (c : Bool) → p x ≡ c → (b || list_any q xs) ≡ false → (list_any q xs ≡ false → filter p xs ≡ [])
          → cond c (x ∷ filter p xs) (filter p xs) ≡ []
      step true is c has e rest = absurd (true≢false e)
      step false is true has e rest = absurd (true≢false (sym (apart x has) ∙ is))
      step false is false has e rest = rest e

  -- what is filtered twice, where each p is q
  pub filter_through : ((a : A) → p a ≡ true → q a ≡ true) → (xs : List A) → filter p (filter q xs) ≡ filter p xs
  filter_through apart [] = refl
  filter_through apart (x ∷ xs) = step (q x) refl (p x) refl (filter_through apart xs)
    where
      step : (b : Bool) → q x ≡ b → (c : Bool) → p x ≡ c → filter p (filter q xs) ≡ filter p xs
          → filter p (cond b (x ∷ filter q xs) (filter q xs)) ≡ cond c (x ∷ filter p xs) (filter p xs)
      step true is c has rest =
          (ap (λ d. cond d (x ∷ filter p (filter q xs)) (filter p (filter q xs))) has) ∙ (λ i. cond c (x ∷ rest i) (rest i))
      step false is true has rest = absurd (true≢false (sym (apart x has) ∙ is))
      step false is false has rest = rest

module _ {X : Type 0} (directory : List ℕ) where
  -- rows that don't come before the directory, but come before what is past it, are within it
  all_within : (rows : List (List ℕ × X)) → list_any (row_first false directory) rows ≡ false
      → list_all (row_first true directory) rows ≡ true → within_rows directory rows ≡ rows
  all_within [] g h = refl
  all_within (row ∷ rows) g h =
      step (is_lt (path_cmp row.0 directory)) g (first_so (row_first true directory row) (list_all (row_first true directory) rows) h)
      (λ none. all_within rows none (second_so (row_first true directory row) (list_all (row_first true directory) rows) h))
    where
      step : (b : Bool) → ((b || false) || list_any (row_first false directory) rows) ≡ false → (b || is_within directory row.0) ≡ true
          → (list_any (row_first false directory) rows ≡ false → within_rows directory rows ≡ rows)
          → within_rows directory (row ∷ rows) ≡ row ∷ rows
      step true none within rest = absurd (true≢false none)
      step false none within rest =
          ap (λ b. cond b (row ∷ within_rows directory rows) (within_rows directory rows)) within ∙ ap (λ others. row ∷ others) (rest none)

  none_in_prefix : (prefix back : List (List ℕ × X)) → list_any (row_first false directory) (prefix ++ back) ≡ false
      → list_any (row_first false directory) prefix ≡ false
  none_in_prefix [] back h = refl
  none_in_prefix (row ∷ prefix) back h = step (row_first false directory row) h (none_in_prefix prefix back)
    where
      step : (b : Bool) → (b || list_any (row_first false directory) (prefix ++ back)) ≡ false
          → (list_any (row_first false directory) (prefix ++ back) ≡ false → list_any (row_first false directory) prefix ≡ false)
          → (b || list_any (row_first false directory) prefix) ≡ false
      step true e rest = e
      step false e rest = rest e

  within_not_first : (row : List ℕ × X) → row_first false directory row ≡ true → is_within directory row.0 ≡ false
  within_not_first row first = step (is_within directory row.0) refl
    where
      unfirst : (b : Bool) → (b || false) ≡ true → b ≡ true
      unfirst true e = refl
      unfirst false e = cc

      step : (b : Bool) → is_within directory row.0 ≡ b → b ≡ false
      step true is = absurd (true≢false (sym (unfirst (is_lt (path_cmp row.0 directory)) first) ∙ within_after directory row.0 is))
      step false is = refl

  within_past : (row : List ℕ × X) → is_within directory row.0 ≡ true → row_first true directory row ≡ true
  within_past row within = step (is_lt (path_cmp row.0 directory))
    where
      step : (b : Bool) → (b || (true && is_within directory row.0)) ≡ true
      step true = refl
      step false = within

  -- the rows of a directory are those from the first that doesn't come before it to the last that isn't past it
  pub run : (prefix middle back : List (List ℕ × X)) → list_all (row_first false directory) prefix ≡ true
      → list_any (row_first false directory) (middle ++ back) ≡ false
      → list_all (row_first true directory) middle ≡ true → list_any (row_first true directory) back ≡ false
      → middle ≡ within_rows directory (prefix ++ (middle ++ back))
  run prefix middle back a b c d =
      let w = λ (row : List ℕ × X). is_within directory row.0 in
      let before : within_rows directory prefix ≡ [] = none_where_all w (row_first false directory) within_not_first prefix a in
      let after : within_rows directory back ≡ [] = none_where_none w (row_first true directory) within_past back d in
      let here : within_rows directory middle ≡ middle = all_within middle (none_in_prefix middle back b) c in
      sym (filter-append w prefix (middle ++ back) ∙ ap (λ rows. rows ++ within_rows directory (middle ++ back)) before
      ∙ filter-append w middle back ∙ (λ i. here i ++ after i) ∙ append-nil middle)

-- the children of a directory are among its rows
pub children-within : {X : Type 0} (directory : List ℕ) (rows : List (List ℕ × X))
    → children (Some directory) (within_rows directory rows) ≡ children (Some directory) rows
children-within directory rows =
    filter_through (λ row. is_child (Some directory) row.0) (λ row. is_within directory row.0) (λ row child. child_within directory row.0 child) rows

pub IsInOrder-children : {X : Type 0} (directory : Option (List ℕ)) (rows : List (List ℕ × X)) → IsInOrder path_cmp rows
    → IsInOrder path_cmp (children directory rows)
IsInOrder-children directory rows h = IsInOrder-where_key path_cmp (is_child directory) rows h

pub IsInOrder-within_rows : {X : Type 0} (directory : List ℕ) (rows : List (List ℕ × X)) → IsInOrder path_cmp rows
    → IsInOrder path_cmp (within_rows directory rows)
IsInOrder-within_rows directory rows h = IsInOrder-where_key path_cmp (is_within directory) rows h
