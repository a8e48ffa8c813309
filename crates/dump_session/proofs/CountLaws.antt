-- Laws of the number of paths of an open dump, and of those that a removal takes away.
use Rattle.std.specs.Prelude.{◌≡◌, ℕ, ◌+◌, Bool, true, false, ◌||◌, not, cond, List, [], ◌∷◌, length, map, Some, None, is_some, ◌⊎◌}
use Rattle.std.specs.List.{filter}
use Rattle.std.specs.Ordering.{eq_by_cmp, is_eq}
use Rattle.std.specs.Cmp.{tied_itself}
use Rattle.std.specs.FinMap.Entries.{find-where_key}
use Rattle.std.proofs.Common.{refl, sym, ap, ◌∙◌, inl, inr, arith}
use Rattle.std.proofs.lemmas.Bool.{true≢false}
use Rattle.std.proofs.lemmas.List.Filters.{length-filter_both}
use Rattle.attr_records.specs.Paths.{path_cmp, is_within}
use Rattle.attr_records.specs.PathLaws.{path_cmp_total, path_cmp_exact}
use Rattle.ordered_lists.specs.Order.{IsInOrder}
use Rattle.attr_records.specs.Trees.{node_at, with_node, without}
use Rattle.attr_records.specs.TreeLaws.{same_tree, length-with_node, node_at-with_node, IsInOrder-with_node}
use Rattle.ordered_lists.specs.OrderLaws.{find_below}
use Rattle.attr_tables.specs.declared.records.Record.{Record}
use Rattle.merge_view.specs.Views.{Rows, HasNoMarks, laid, view}
use Rattle.merge_view.specs.ViewLaws.{IsInOrder-view, node_at-view}
use Rattle.merge_view.specs.Runs.{within_rows}
use Rattle.merge_view.specs.RunLaws.{filter_through, within_through, IsInOrder-within_rows}
use Rattle.dump_session.specs.Removed.{is_gone, is_removed, IsApart}
use Rattle.dump_session.proofs.RemovedLaws.{nested, gone_by, gone_below}
use Rattle.dump_session.specs.Edits.{outside}
use Rattle.dump_session.proofs.EditLaws.{laid_node}
use Rattle.dump_session.specs.Counts.{fresh, total_rows, paths_of}

-- ---- lengths of filters

module _ {A : Type 0} where
  pub length-filter_or : (p q : A → Bool) → ((a : A) → p a ≡ true → q a ≡ false) → (xs : List A)
      → length (filter (λ a. p a || q a) xs) ≡ length (filter p xs) + length (filter q xs)
  length-filter_or p q apart [] = refl
  length-filter_or p q apart (x ∷ xs) = step (p x) refl (q x) refl (length-filter_or p q apart xs)
    where
      step : (b : Bool) → p x ≡ b → (c : Bool) → q x ≡ c
          → length (filter (λ a. p a || q a) xs) ≡ length (filter p xs) + length (filter q xs)
          → length (cond (b || c) (x ∷ filter (λ a. p a || q a) xs) (filter (λ a. p a || q a) xs)) ≡ length (cond b (x ∷ filter p xs) (filter p xs)) + length (cond c (x ∷ filter q xs) (filter q xs))
      step true is true has rest = absurd (true≢false (sym has ∙ apart x is))
      step true is false has rest = omega arith
      step false is true has rest = omega arith
      step false is false has rest = rest

  -- what passes one test passes no other
  pub filter_apart : (p q : A → Bool) → ((a : A) → q a ≡ true → p a ≡ false) → (xs : List A) → filter p (filter q xs) ≡ []
  filter_apart p q apart [] = refl
  filter_apart p q apart (x ∷ xs) = step (q x) refl (filter_apart p q apart xs)
    where
      step : (b : Bool) → q x ≡ b → filter p (filter q xs) ≡ [] → filter p (cond b (x ∷ filter q xs) (filter q xs)) ≡ []
      step true is rest = ap (λ c. cond c (x ∷ filter p (filter q xs)) (filter p (filter q xs))) (apart x is) ∙ rest
      step false is rest = rest

  -- two tests may be made in either order
  pub filter_swapped : (p q : A → Bool) (xs : List A) → filter p (filter q xs) ≡ filter q (filter p xs)
  filter_swapped p q [] = refl
  filter_swapped p q (x ∷ xs) = step (p x) refl (q x) refl (filter_swapped p q xs)
    where
      step : (b : Bool) → p x ≡ b → (c : Bool) → q x ≡ c → filter p (filter q xs) ≡ filter q (filter p xs)
          → filter p (cond c (x ∷ filter q xs) (filter q xs)) ≡ filter q (cond b (x ∷ filter p xs) (filter p xs))
      step true is true has rest =
          ap (λ d. cond d (x ∷ filter p (filter q xs)) (filter p (filter q xs))) is ∙ (λ i. x ∷ rest i)
          ∙ ap (λ d. cond d (x ∷ filter q (filter p xs)) (filter q (filter p xs))) (sym has)
      step true is false has rest = rest ∙ ap (λ d. cond d (x ∷ filter q (filter p xs)) (filter q (filter p xs))) (sym has)
      step false is true has rest = ap (λ d. cond d (x ∷ filter p (filter q xs)) (filter p (filter q xs))) is ∙ rest
      step false is false has rest = rest

-- ---- the paths of a view

-- a view has the rows of the tree, and the nodes that were put elsewhere
pub length-view : (tree puts : Rows) → IsInOrder path_cmp tree → IsInOrder path_cmp puts → HasNoMarks puts
    → length (view tree puts) ≡ length tree + length (fresh tree puts)
length-view tree [] g h clean =
    ap length (same_tree (view tree []) tree (IsInOrder-view tree [] g tt) g (λ path. node_at-view tree [] g tt path)) ∙ omega arith
length-view tree (row ∷ puts) g h clean =
    let rest = IsInOrder-view tree puts g h.1 in
    ap length (one_more rest)
    ∙ length-with_node (view tree puts) row.0 row.1 rest
    ∙ ap (λ node. cond (is_some node) (length (view tree puts)) (length (view tree puts) + 1)) (node_at-view tree puts g h.1 row.0 ∙ ap (λ node. laid node (node_at tree row.0)) (find_below path_cmp path_cmp_total row.0 puts h.0))
    ∙ step (is_some (node_at tree row.0)) (length-view tree puts g h.1 clean.1)
  where
    one_more : IsInOrder path_cmp (view tree puts) → view tree (row ∷ puts) ≡ with_node (view tree puts) row.0 row.1
    one_more rest =
        same_tree (view tree (row ∷ puts)) (with_node (view tree puts) row.0 row.1) (IsInOrder-view tree (row ∷ puts) g h) (IsInOrder-with_node (view tree puts) row.0 row.1 rest) (λ path.
        node_at-view tree (row ∷ puts) g h path
        ∙ cases path (eq_by_cmp path_cmp path row.0)
        ∙ ap (cond (eq_by_cmp path_cmp path row.0) (Some row.1)) (sym (node_at-view tree puts g h.1 path))
        ∙ sym (node_at-with_node (view tree puts) row.0 row.1 path))
      where
        cases : (path : List ℕ) (b : Bool)
            → laid (cond b (Some row.1) (node_at puts path)) (node_at tree path) ≡ cond b (Some row.1) (laid (node_at puts path) (node_at tree path))
        cases path true = laid_node row.1 (node_at tree path) clean.0
        cases path false = refl

    step : (b : Bool) → length (view tree puts) ≡ length tree + length (fresh tree puts)
        → cond b (length (view tree puts)) (length (view tree puts) + 1) ≡ length tree + length (cond (not b) (row ∷ fresh tree puts) (fresh tree puts))
    step true e = e
    step false e = omega arith

module _ {X : Type 0} where
  pub node_at-within_rows : (directory : List ℕ) (rows : List (List ℕ × X)) (path : List ℕ)
      → node_at (within_rows directory rows) path ≡ cond (is_within directory path) (node_at rows path) None
  node_at-within_rows directory rows path =
      find-where_key path_cmp (is_within directory) path (λ p same. ap (is_within directory) (sym (path_cmp_exact path p same))) rows

  -- a removal leaves the others
  pub length-without : (rows : List (List ℕ × X)) (path : List ℕ)
      → length (without rows path) + length (within_rows path rows) ≡ length rows
  length-without rows path =
      length-filter_both (λ row. not (is_within path row.0)) (λ row. is_within path row.0) (λ row. twice (is_within path row.0)) rows
    where
      twice : (b : Bool) → b ≡ not (not b)
      twice true = refl
      twice false = refl

-- the rows of a directory in a view are those of the tree viewed through those of the entries
pub within-view : (directory : List ℕ) (tree puts : Rows) → IsInOrder path_cmp tree → IsInOrder path_cmp puts
    → within_rows directory (view tree puts) ≡ view (within_rows directory tree) (within_rows directory puts)
within-view directory tree puts g h =
    let a = IsInOrder-within_rows directory tree g in
    let b = IsInOrder-within_rows directory puts h in
    same_tree (within_rows directory (view tree puts)) (view (within_rows directory tree) (within_rows directory puts)) (IsInOrder-within_rows directory (view tree puts) (IsInOrder-view tree puts g h)) (IsInOrder-view (within_rows directory tree) (within_rows directory puts) a b) (λ path.
    node_at-within_rows directory (view tree puts) path
    ∙ ap (λ node. cond (is_within directory path) node None) (node_at-view tree puts g h path)
    ∙ step path (is_within directory path)
    ∙ (λ i. laid (sym (node_at-within_rows directory puts path) i) (sym (node_at-within_rows directory tree path) i))
    ∙ sym (node_at-view (within_rows directory tree) (within_rows directory puts) a b path))
  where
    step : (path : List ℕ) (b : Bool)
        → cond b (laid (node_at puts path) (node_at tree path)) None ≡ laid (cond b (node_at puts path) None) (cond b (node_at tree path) None)
    step path true = refl
    step path false = refl

-- ---- the rows that removed paths take away

module _ {X : Type 0} where
  IsApart-rest : (entry : List ℕ × X) (removed : List (List ℕ × X)) → IsApart (entry ∷ removed) → IsApart removed
  IsApart-rest entry removed apart = record { same = λ a b g h within. apart.same a b (among a (eq_by_cmp path_cmp a entry.0) g) (among b (eq_by_cmp path_cmp b entry.0) h) within }
    where
      among : (a : List ℕ) (c : Bool) → is_some (node_at removed a) ≡ true → is_some (cond c (Some entry.1) (node_at removed a)) ≡ true
      among a true e = refl
      among a false e = e

  -- the rows of a directory that are gone, by the removed paths within it
  gone-total : (base : Rows) (removed : List (List ℕ × X)) (path : List ℕ) → IsInOrder path_cmp removed → IsApart removed
      → is_gone removed path ≡ false
      → length (filter (λ row. is_gone removed row.0) (within_rows path base)) ≡ total_rows base (paths_of (within_rows path removed))
  gone-total base [] path order apart there = none (within_rows path base)
    where
      none : (rows : Rows) → length (filter (λ row. false) rows) ≡ 0
      none [] = refl
      none (row ∷ rows) = none rows
  gone-total base (entry ∷ removed) path order apart there =
      length-filter_or (λ row. is_within entry.0 row.0) (λ row. is_gone removed row.0) disjoint (within_rows path base)
      ∙ step (is_within path entry.0) refl (gone-total base removed path order.1 (IsApart-rest entry removed apart) (second_false (is_within entry.0 path) (is_gone removed path) there))
    where
      second_false : (a b : Bool) → (a || b) ≡ false → b ≡ false
      second_false true b e = absurd (true≢false e)
      second_false false b e = e

      first_false : (a b : Bool) → (a || b) ≡ false → a ≡ false
      first_false true b e = absurd (true≢false e)
      first_false false b e = refl

      itself : is_removed (entry ∷ removed) entry.0 ≡ true
      itself = ap (λ r. is_some (cond (is_eq r) (Some entry.1) (node_at removed entry.0))) (tied_itself path_cmp_total entry.0)

      among : (a : List ℕ) (c : Bool) → is_some (node_at removed a) ≡ true → is_some (cond c (Some entry.1) (node_at removed a)) ≡ true
      among a true e = refl
      among a false e = e

      -- a further removed path is another one
      other : (by : List ℕ) → is_removed removed by ≡ true → entry.0 ≡ by → ⊥
      other by member same =
          true≢false (sym member ∙ ap (is_removed removed) (sym same) ∙ ap is_some (find_below path_cmp path_cmp_total entry.0 removed order.0))

      disjoint : (row : List ℕ × Record) → is_within entry.0 row.0 ≡ true → is_gone removed row.0 ≡ false
      disjoint row within = cases (is_gone removed row.0) refl
        where
          both : (w : (by : List ℕ) × (is_removed removed by ≡ true) × (is_within by row.0 ≡ true))
              → ((is_within entry.0 w.0 ≡ true) ⊎ (is_within w.0 entry.0 ≡ true)) → ⊥
          both w (inl e) = other w.0 w.1 (apart.same entry.0 w.0 itself (among w.0 (eq_by_cmp path_cmp w.0 entry.0) w.1) e)
          both w (inr e) = other w.0 w.1 (sym (apart.same w.0 entry.0 (among w.0 (eq_by_cmp path_cmp w.0 entry.0) w.1) itself e))

          cases : (b : Bool) → is_gone removed row.0 ≡ b → b ≡ false
          cases true is = let w = gone_by removed row.0 is in absurd (both w (nested entry.0 w.0 row.0 within w.2))
          cases false is = refl

      -- the rows of a removed path that lies elsewhere
      elsewhere : is_within path entry.0 ≡ false → (row : List ℕ × Record) → is_within path row.0 ≡ true → is_within entry.0 row.0 ≡ false
      elsewhere apart_from row within = cases (is_within entry.0 row.0) refl
        where
          both : ((is_within path entry.0 ≡ true) ⊎ (is_within entry.0 path ≡ true)) → ⊥
          both (inl e) = true≢false (sym e ∙ apart_from)
          both (inr e) = true≢false (sym e ∙ first_false (is_within entry.0 path) (is_gone removed path) there)

          cases : (b : Bool) → is_within entry.0 row.0 ≡ b → b ≡ false
          cases true is = absurd (both (nested path entry.0 row.0 within is))
          cases false is = refl

      step : (b : Bool) → is_within path entry.0 ≡ b
          → length (filter (λ row. is_gone removed row.0) (within_rows path base)) ≡ total_rows base (paths_of (within_rows path removed))
          → length (within_rows entry.0 (within_rows path base)) + length (filter (λ row. is_gone removed row.0) (within_rows path base)) ≡ total_rows base (paths_of (cond b (entry ∷ within_rows path removed) (within_rows path removed)))
      step true is rest =
          let rows : within_rows entry.0 (within_rows path base) ≡ within_rows entry.0 base = filter_through (λ row. is_within entry.0 row.0) (λ row. is_within path row.0) (λ row within. within_through path entry.0 row.0 is within) base in
          λ i. length (rows i) + rest i
      step false is rest =
          let rows : within_rows entry.0 (within_rows path base) ≡ [] = filter_apart (λ row. is_within entry.0 row.0) (λ row. is_within path row.0) (elsewhere is) base in
          (λ i. length (rows i) + rest i) ∙ omega arith

  -- the rows of a directory that are left, and those that removed paths within it took away
  pub left-total : (base : Rows) (removed : List (List ℕ × X)) (path : List ℕ) → IsInOrder path_cmp removed → IsApart removed
      → is_gone removed path ≡ false
      → length (within_rows path (outside base removed)) + total_rows base (paths_of (within_rows path removed)) ≡ length (within_rows path base)
  left-total base removed path order apart there =
      (λ i. length (filter_swapped (λ row. is_within path row.0) (λ row. not (is_gone removed row.0)) base i) + sym (gone-total base removed path order apart there) i)
      ∙ length-filter_both (λ row. not (is_gone removed row.0)) (λ row. is_gone removed row.0) (λ row. twice (is_gone removed row.0)) (within_rows path base)
    where
      twice : (b : Bool) → b ≡ not (not b)
      twice true = refl
      twice false = refl

  -- of a directory that is gone no rows are left
  pub none-left : (base : Rows) (removed : List (List ℕ × X)) (path : List ℕ) → is_gone removed path ≡ true
      → within_rows path (outside base removed) ≡ []
  none-left base removed path gone = filter_apart (λ row. is_within path row.0) (λ row. not (is_gone removed row.0)) apart base
    where
      apart : (row : List ℕ × Record) → not (is_gone removed row.0) ≡ true → is_within path row.0 ≡ false
      apart row left = cases (is_within path row.0) refl
        where
          not_both : (b : Bool) → b ≡ true → not b ≡ true → ⊥
          not_both true e f = true≢false (sym f)
          not_both false e f = true≢false (sym e)

          cases : (b : Bool) → is_within path row.0 ≡ b → b ≡ false
          cases true is = absurd (not_both (is_gone removed row.0) (gone_below removed path row.0 gone is) left)
          cases false is = refl
