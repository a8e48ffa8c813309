-- What a `BTreeMap` by path says of its entries, as a list in the order of its paths.
use Rattle.std.proofs.Common.{◌≡◌, ℕ, Bool, true, false, not, ◌&&◌, ◌||◌, cond, List, [], ◌∷◌, Option, Some, None, is_some, refl, sym, ap, ◌∙◌}
use Rattle.std.specs.List.{list_any}
use Rattle.std.specs.declared.cmp.Ordering.{Ordering}
use Rattle.std.specs.declared.cmp.Ordering.TheVariants.{Less, Equal, Greater}
use Rattle.std.specs.declared.ops.Bound.TheVariants.{Included, Unbounded}
use Rattle.std.specs.Ordering.{is_lt, is_le, eq_by_cmp, ordering_reverse}
use Rattle.std.specs.Cmp.{eq_by_cmp_equiv, Equal-is}
use Rattle.std.specs.FinMap.Entries.{is_some-find}
use Rattle.std.specs.BTreeMap.Range.{entries_between, range_contains}
use Rattle.std.proofs.lemmas.Bool.{true≢false}
use Rattle.attr_records.specs.Paths.{path_cmp, is_within}
use Rattle.attr_records.specs.PathLaws.{path_cmp_total, path_cmp_exact, within-itself}
use Rattle.attr_records.specs.PathLaws.{between}
use Rattle.ordered_lists.specs.Order.{IsInOrder, IsBelowAll}
use Rattle.ordered_lists.specs.OrderLaws.{IsInOrder-where_key}
use Rattle.attr_records.specs.Trees.{node_at, with_node, without}
use Rattle.attr_records.specs.TreeLaws.{same_tree, node_at-with_node, node_at-without, IsInOrder-with_node, IsInOrder-without}
use Rattle.merge_view.specs.Runs.{within_rows, row_first}
use Rattle.merge_view.specs.RunLaws.{filter_through, within_after}
use Rattle.dump_session.specs.Removed.{is_gone, is_removed, with_removed}
use Rattle.dump_session.proofs.RemovedLaws.{gone_within}
use Rattle.dump_session.specs.Counts.{paths_of}
use Rattle.dump_session.proofs.CountLaws.{node_at-within_rows}

-- ---- the entries from a directory on

is_from : (r s : Ordering) → r ≡ ordering_reverse s → is_lt s ≡ false → (is_le r && true) ≡ true
is_from r Less e f = cc
is_from r Equal e f = ap (λ o. is_le o && true) e
is_from r Greater e f = ap (λ o. is_le o && true) e

not_first : (r s : Ordering) → s ≡ ordering_reverse r → (is_le r && true) ≡ true → (is_lt s || false) ≡ false
not_first Less s e f = ap (λ o. is_lt o || false) e
not_first Equal s e f = ap (λ o. is_lt o || false) e
not_first Greater s e f = cc

module _ {X : Type 0} (directory : List ℕ) where
  pub from_in_order : (rows : List (List ℕ × X)) → IsInOrder path_cmp rows
      → IsInOrder path_cmp (entries_between path_cmp (Included directory) Unbounded rows)
  from_in_order rows h = IsInOrder-where_key path_cmp (range_contains path_cmp (Included directory) Unbounded) rows h

  pub from_behind : (rows : List (List ℕ × X))
      → list_any (row_first false directory) (entries_between path_cmp (Included directory) Unbounded rows) ≡ false
  from_behind [] = refl
  from_behind (row ∷ rows) = step (range_contains path_cmp (Included directory) Unbounded row.0) refl (from_behind rows)
    where
      step : (b : Bool) → range_contains path_cmp (Included directory) Unbounded row.0 ≡ b
          → list_any (row_first false directory) (entries_between path_cmp (Included directory) Unbounded rows) ≡ false
          → list_any (row_first false directory) (cond b (row ∷ entries_between path_cmp (Included directory) Unbounded rows) (entries_between path_cmp (Included directory) Unbounded rows)) ≡ false
      step true is rest =
          λ i. not_first (path_cmp directory row.0) (path_cmp row.0 directory) (path_cmp_total.antisymm row.0 directory) is i || rest i
      step false is rest = rest

  pub from_within : (rows : List (List ℕ × X))
      → within_rows directory (entries_between path_cmp (Included directory) Unbounded rows) ≡ within_rows directory rows
  from_within rows =
      filter_through (λ row. is_within directory row.0) (λ row. range_contains path_cmp (Included directory) Unbounded row.0)
      (λ row within. is_from (path_cmp directory row.0) (path_cmp row.0 directory) (path_cmp_total.antisymm directory row.0) (within_after directory row.0 within)) rows

  -- behind a path that isn't within the directory none is
  none_behind : (path : List ℕ) (rows : List (List ℕ × X)) → path_cmp directory path ≡ Less → is_within directory path ≡ false
      → IsBelowAll path_cmp path rows → within_rows directory rows ≡ []
  none_behind path [] behind outside h = refl
  none_behind path (row ∷ rows) behind outside h = step (is_within directory row.0) refl (none_behind path rows behind outside h.1)
    where
      step : (b : Bool) → is_within directory row.0 ≡ b → within_rows directory rows ≡ []
          → cond b (row ∷ within_rows directory rows) (within_rows directory rows) ≡ []
      step true is rest = absurd (true≢false (sym (between directory path row.0 is behind h.0) ∙ outside))
      step false is rest = rest

  pub none_more : (row : List ℕ × X) (rows : List (List ℕ × X)) → IsInOrder path_cmp (row ∷ rows)
      → list_any (row_first false directory) (row ∷ rows) ≡ false → is_within directory row.0 ≡ false
      → within_rows directory (row ∷ rows) ≡ []
  none_more row rows h from outside =
      ap (λ b. cond b (row ∷ within_rows directory rows) (within_rows directory rows)) outside
      ∙ step (path_cmp row.0 directory) refl from
    where
      step : (r : Ordering) → path_cmp row.0 directory ≡ r → ((is_lt r || false) || list_any (row_first false directory) rows) ≡ false
          → within_rows directory rows ≡ []
      step Less is e = absurd (true≢false e)
      step Equal is e =
          absurd (true≢false (sym (ap (is_within directory) (path_cmp_exact row.0 directory is) ∙ within-itself directory) ∙ outside))
      step Greater is e = none_behind row.0 rows (path_cmp_total.antisymm directory row.0 ∙ ap ordering_reverse is) outside h.0

-- ---- paths that are taken out

same_path : (a b : List ℕ) → eq_by_cmp path_cmp a b ≡ true → a ≡ b
same_path a b e = path_cmp_exact a b ((Equal-is (path_cmp a b)).0 e)

module _ {X : Type 0} where
  -- a path is among those of rows where the rows have it
  among : (rows : List (List ℕ × X)) (asked : List ℕ)
      → list_any (λ path. eq_by_cmp path_cmp path asked) (paths_of rows) ≡ is_some (node_at rows asked)
  among rows asked = turned (paths_of rows) ∙ sym (is_some-find path_cmp asked rows)
    where
      turned : (paths : List (List ℕ)) → list_any (λ path. eq_by_cmp path_cmp path asked) paths ≡ list_any (eq_by_cmp path_cmp asked) paths
      turned [] = refl
      turned (path ∷ paths) = λ i. (eq_by_cmp_equiv path_cmp_total).symm path asked i || turned paths i

  -- the paths within a directory, taken out
  abbrev taken_out : List (List ℕ × X) → List ℕ → List ℕ → Option X → Option X
  taken_out old path asked node = cond (list_any (λ p. eq_by_cmp path_cmp p asked) (paths_of (within_rows path old))) None node

  listed : (old : List (List ℕ × X)) (path asked : List ℕ)
      → list_any (λ p. eq_by_cmp path_cmp p asked) (paths_of (within_rows path old)) ≡ is_some (cond (is_within path asked) (node_at old asked) None)
  listed old path asked = among (within_rows path old) asked ∙ ap is_some (node_at-within_rows path old asked)

  -- what is left without a directory's paths is the map without the directory
  pub forgotten : (old new : List (List ℕ × X)) (path : List ℕ) (paths : List (List ℕ)) → IsInOrder path_cmp old → IsInOrder path_cmp new
      → paths ≡ paths_of (within_rows path old)
      → ((asked : List ℕ) → node_at new asked ≡ cond (list_any (λ p. eq_by_cmp path_cmp p asked) paths) None (node_at old asked))
      → new ≡ without old path
  forgotten old new path paths g h is each = same_tree new (without old path) h (IsInOrder-without old path g) (λ asked.
      each asked
      ∙ (λ i. cond (list_any (λ p. eq_by_cmp path_cmp p asked) (is i)) None (node_at old asked))
      ∙ ap (λ b. cond b None (node_at old asked)) (listed old path asked)
      ∙ step (is_within path asked) (node_at old asked)
      ∙ sym (node_at-without old path asked))
    where
      step : (b : Bool) (node : Option X) → cond (is_some (cond b node None)) None node ≡ cond (not b) node None
      step true None = refl
      step true (Some x) = refl
      step false base = refl

  -- a path that is put, and those within it taken out
  pub replaced : (old middle new : List (List ℕ × X)) (path : List ℕ) (mark : X) (paths : List (List ℕ)) → IsInOrder path_cmp old
      → IsInOrder path_cmp new → middle ≡ with_node old path mark → is_gone old path ≡ false
      → paths ≡ paths_of (within_rows path old)
      → ((asked : List ℕ) → node_at new asked ≡ cond (list_any (λ p. eq_by_cmp path_cmp p asked) paths) None (node_at middle asked))
      → new ≡ with_removed old path mark
  replaced old middle new path mark paths g h put there is each =
      same_tree new (with_removed old path mark) h (IsInOrder-with_node (without old path) path mark (IsInOrder-without old path g)) (λ asked.
      each asked
      ∙ (λ i. cond (list_any (λ p. eq_by_cmp path_cmp p asked) (is i)) None (node_at (put i) asked))
      ∙ (λ i. cond (listed old path asked i) None (node_at-with_node old path mark asked i))
      ∙ step asked (eq_by_cmp path_cmp asked path) refl (is_within path asked) (node_at old asked) refl
      ∙ ap (cond (eq_by_cmp path_cmp asked path) (Some mark)) (sym (node_at-without old path asked))
      ∙ sym (node_at-with_node (without old path) path mark asked))
    where
      not_there : (asked : List ℕ) → eq_by_cmp path_cmp asked path ≡ true → is_removed old asked ≡ true → ⊥
      not_there asked same member =
          let at : asked ≡ path = same_path asked path same in
          true≢false (sym (gone_within old path path (ap (is_removed old) (sym at) ∙ member) (within-itself path)) ∙ there)

      step : (asked : List ℕ) (b : Bool) → eq_by_cmp path_cmp asked path ≡ b → (c : Bool) (node : Option X) → node_at old asked ≡ node
          → cond (is_some (cond c node None)) None (cond b (Some mark) node) ≡ cond b (Some mark) (cond (not c) node None)
      step asked true same true None at = refl
      step asked true same true (Some x) at = absurd (not_there asked same (ap is_some at))
      step asked true same false base at = refl
      step asked false other true None at = refl
      step asked false other true (Some x) at = refl
      step asked false other false base at = refl
