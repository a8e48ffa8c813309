-- What is added was taken: each row of a new table comes from the backup's own table or from one of the deleted run behind it.
--     few_of      rows that weigh no more than two tables at each path
--     added-within      how often the tables that are written name an id
use Rattle.std.specs.Prelude.{◌≡◌, ℕ, ◌+◌, ◌≤◌, Bool, true, false, ◌||◌, cond, List, [], ◌∷◌, Option, Some, None, if◌then◌else◌}
use Rattle.std.specs.Option.{option_to_list}
use Rattle.std.specs.declared.cmp.Ordering.{Ordering}
use Rattle.std.specs.declared.cmp.Ordering.TheVariants.{Less, Equal, Greater}
use Rattle.std.specs.Ordering.{is_eq}
use Rattle.std.specs.Cmp.{tied_itself, alike_right}
use Rattle.std.proofs.Common.{refl, sym, ap, ◌∙◌, subst, length, drop, arith}
use Rattle.std.proofs.lemmas.List.{drop_all}
use Rattle.disk_trait.specs.declared.ids.PoolId.{PoolId}
use Rattle.ordered_lists.specs.Order.{IsBelowAll, IsInOrder}
use Rattle.ordered_lists.specs.OrderLaws.{below_alike, find_below}
use Rattle.attr_records.specs.Paths.{path_cmp}
use Rattle.attr_records.specs.PathLaws.{path_cmp_total}
use Rattle.attr_records.specs.Trees.{node_at}
use Rattle.attr_tables.specs.declared.records.Record.{Record}
use Rattle.attr_tables.specs.declared.records.Record.TheVariants.{File, Dir, Link, Deleted}
use Rattle.attr_tables.specs.Records.{is_same_record}
use Rattle.attr_tables.specs.RecordLaws.{record_itself}
use Rattle.backup_rules.specs.declared.lines.Line.{Line}
use Rattle.merge_view.specs.Views.{Rows, laid, difference, view, reverse}
use Rattle.merge_view.specs.ViewLaws.{IsInOrder-view, IsInOrder-reverse, node_at-view, node_at-reverse}
use Rattle.merge_view.specs.Tables.{AllInOrder}
use Rattle.stored_trees.specs.Occurrences.{names, occurrences}
use Rattle.ref_counts.specs.Numbers.{total}
use Rattle.backup_delete.specs.Trees.{tree_of, is_gone, needs_fold}
use Rattle.backup_delete.specs.Folds.{next_tree, replaced, change_of, changes, added_tables, taken_tables}
use Rattle.backup_delete.specs.CountedLaws.{added_total}

-- ---- rows by paths

-- whether what is at a path names the id
abbrev weight : PoolId → Option Record → ℕ
weight id None = 0
weight id (Some node) = if names id node then 1 else 0

-- the rows of other paths
abbrev others : List ℕ → Rows → Rows
others path [] = []
others path (row ∷ rows) = if is_eq (path_cmp path row.0) then others path rows else row ∷ others path rows

one_and_others : (id : PoolId) (path : List ℕ) (rows : Rows) → weight id (node_at rows path) + occurrences id (others path rows) ≤ occurrences id rows
one_and_others id path [] = omega arith
one_and_others id path (row ∷ rows) = step (is_eq (path_cmp path row.0)) (one_and_others id path rows)
  where
    step : (b : Bool) → weight id (node_at rows path) + occurrences id (others path rows) ≤ occurrences id rows
        → weight id (cond b (Some row.1) (node_at rows path)) + occurrences id (if b then others path rows else row ∷ others path rows)
        ≤ (if names id row.1 then 1 else 0) + occurrences id rows
    step true e = omega (arith, e)
    step false e = omega (arith, e)

passed_over : (path q : List ℕ) (row : List ℕ × Record) (found : Option Record) (r : Ordering) → path_cmp path row.0 ≡ r → is_eq r ≡ true
    → is_eq (path_cmp q path) ≡ false → found ≡ cond (is_eq (path_cmp q row.0)) (Some row.1) found
passed_over path q row found Less is e apart = cc
passed_over path q row found Equal is e apart =
    ap (λ b. cond b (Some row.1) found) (sym apart ∙ ap is_eq (alike_right path_cmp_total path row.0 q is))
passed_over path q row found Greater is e apart = cc

-- other paths have the same there
same_elsewhere : (path q : List ℕ) (rows : Rows) → is_eq (path_cmp q path) ≡ false → node_at (others path rows) q ≡ node_at rows q
same_elsewhere path q [] apart = refl
same_elsewhere path q (row ∷ rows) apart = step (is_eq (path_cmp path row.0)) refl (same_elsewhere path q rows apart)
  where
    step : (b : Bool) → is_eq (path_cmp path row.0) ≡ b → node_at (others path rows) q ≡ node_at rows q
        → node_at (if b then others path rows else row ∷ others path rows) q ≡ cond (is_eq (path_cmp q row.0)) (Some row.1) (node_at rows q)
    step true e rest = rest ∙ passed_over path q row (node_at rows q) (path_cmp path row.0) refl e apart
    step false e rest = ap (cond (is_eq (path_cmp q row.0)) (Some row.1)) rest

none_left : (path q : List ℕ) (rows : Rows) (r : Ordering) → path_cmp q path ≡ r → is_eq r ≡ true → IsBelowAll path_cmp path rows → node_at rows q ≡ None
none_left path q rows Less is e below = cc
none_left path q rows Equal is e below = find_below path_cmp path_cmp_total q rows (below_alike path_cmp path_cmp_total q path rows is below)
none_left path q rows Greater is e below = cc

-- rows that weigh no more than two tables at each path weigh no more in all
few_of : (id : PoolId) (xs ys zs : Rows) → IsInOrder path_cmp xs
    → ((path : List ℕ) → weight id (node_at xs path) ≤ weight id (node_at ys path) + weight id (node_at zs path))
    → occurrences id xs ≤ occurrences id ys + occurrences id zs
few_of id [] ys zs order each = omega arith
few_of id (x ∷ xs) ys zs order each =
    let first = one_and_others id x.0 ys in
    let second = one_and_others id x.0 zs in
    let rest = few_of id xs (others x.0 ys) (others x.0 zs) order.1 (λ q. step q (is_eq (path_cmp q x.0)) refl (each q)) in
    sum _ _ _ _ _ _ _ _ here first second rest
  where
    here : weight id (Some x.1) ≤ weight id (node_at ys x.0) + weight id (node_at zs x.0)
    here = subst (λ (o : Option Record). weight id o ≤ weight id (node_at ys x.0) + weight id (node_at zs x.0))
        (ap (λ r. cond (is_eq r) (Some x.1) (node_at xs x.0)) (tied_itself path_cmp_total x.0)) (each x.0)

    sum : (w o a b p q s t : ℕ) → w ≤ a + b → a + p ≤ s → b + q ≤ t → o ≤ p + q → w + o ≤ s + t
    sum w o a b p q s t e f g h = omega (arith, e, f, g, h)

    step : (q : List ℕ) (b : Bool) → is_eq (path_cmp q x.0) ≡ b
        → weight id (cond (is_eq (path_cmp q x.0)) (Some x.1) (node_at xs q)) ≤ weight id (node_at ys q) + weight id (node_at zs q)
        → weight id (node_at xs q) ≤ weight id (node_at (others x.0 ys) q) + weight id (node_at (others x.0 zs) q)
    step q true e all =
        subst (λ (o : Option Record). weight id o ≤ weight id (node_at (others x.0 ys) q) + weight id (node_at (others x.0 zs) q))
        (sym (none_left x.0 q xs (path_cmp q x.0) refl e order.0)) (omega arith)
    step q false e all =
        subst (λ (n : ℕ). weight id (node_at xs q) ≤ n)
        (sym (λ i. weight id (same_elsewhere x.0 q ys e i) + weight id (same_elsewhere x.0 q zs e i)))
        (subst (λ (o : Option Record). weight id o ≤ weight id (node_at ys q) + weight id (node_at zs q))
        (ap (λ b. cond b (Some x.1) (node_at xs q)) e) all)

-- ---- reverse entries

differs : (id : PoolId) (older newer : Option Record) → weight id (difference older newer) ≤ weight id older
differs id None None = omega arith
differs id None (Some newer) = omega arith
differs id (Some older) None = omega arith
differs id (Some older) (Some newer) = step (is_same_record older newer)
  where
    step : (b : Bool) → weight id (if b then None else Some older) ≤ weight id (Some older)
    step true = omega arith
    step false = omega arith

laid_differs : (id : PoolId) (entry base newer : Option Record) → weight id (difference (laid entry base) newer) ≤ weight id entry + weight id (difference base newer)
laid_differs id None base newer = omega arith
laid_differs id (Some Deleted) base None = omega arith
laid_differs id (Some Deleted) base (Some newer) = omega arith
laid_differs id (Some (File file)) base newer = let e = differs id (Some (File file)) newer in omega (arith, e)
laid_differs id (Some (Dir dir)) base newer = let e = differs id (Some (Dir dir)) newer in omega (arith, e)
laid_differs id (Some (Link link)) base newer = let e = differs id (Some (Link link)) newer in omega (arith, e)

no_difference : (id : PoolId) (node : Option Record) → weight id (difference node node) ≤ 0
no_difference id None = omega arith
no_difference id (Some node) = subst (λ b. weight id (if b then None else Some node) ≤ 0) (sym (record_itself node)) (omega arith)

none_of_itself : (id : PoolId) (tree : Rows) → IsInOrder path_cmp tree → occurrences id (reverse tree tree) ≤ 0
none_of_itself id tree order = few_of id (reverse tree tree) [] [] (IsInOrder-reverse tree tree order order)
    (λ path. subst (λ (o : Option Record). weight id o ≤ 0) (sym (node_at-reverse tree tree order order path)) (no_difference id (node_at tree path)))

few_of_older : (id : PoolId) (older newer : Rows) → IsInOrder path_cmp older → IsInOrder path_cmp newer
    → occurrences id (reverse older newer) ≤ occurrences id older + 0
few_of_older id older newer g h = few_of id (reverse older newer) older [] (IsInOrder-reverse older newer g h)
    (λ path. subst (λ (o : Option Record). weight id o ≤ weight id (node_at older path) + 0) (sym (node_at-reverse older newer g h path))
    (let e = differs id (node_at older path) (node_at newer path) in omega (arith, e)))

few_of_view : (id : PoolId) (tree entries newer : Rows) → IsInOrder path_cmp tree → IsInOrder path_cmp entries → IsInOrder path_cmp newer
    → occurrences id (reverse (view tree entries) newer) ≤ occurrences id entries + occurrences id (reverse tree newer)
few_of_view id tree entries newer g h n =
    let seen = IsInOrder-view tree entries g h in
    few_of id (reverse (view tree entries) newer) entries (reverse tree newer) (IsInOrder-reverse (view tree entries) newer seen n)
    (λ path. subst (λ (o : Option Record). weight id o ≤ weight id (node_at entries path) + weight id (node_at (reverse tree newer) path))
    (sym (node_at-reverse (view tree entries) newer seen n path
    ∙ ap (λ (o : Option Record). difference o (node_at newer path)) (node_at-view tree entries g h path)))
    (subst (λ (o : Option Record). weight id (difference (laid (node_at entries path) (node_at tree path)) (node_at newer path))
    ≤ weight id (node_at entries path) + weight id o) (sym (node_at-reverse tree newer g n path))
    (laid_differs id (node_at entries path) (node_at tree path) (node_at newer path))))

-- tables of which those from an index on are in order, at the end
pub all_in_order : (tables : List Rows) (i : ℕ) → length tables ≤ i → (AllInOrder (drop i tables) → AllInOrder tables) → AllInOrder tables
all_in_order tables i end order = order (subst AllInOrder (sym (drop_all i tables end)) tt)

-- ---- a run of deleted backups

-- how often the tables of the deleted backups before the first that stays name an id
abbrev run_total : PoolId → List ℕ → List Line → List Rows → ℕ
run_total id numbers [] tables = 0
run_total id numbers (line ∷ lines) [] = 0
run_total id numbers (line ∷ lines) (table ∷ tables) =
    if is_gone numbers line.number then occurrences id table + run_total id numbers lines tables else 0

pub tree_order : (lines : List Line) (tables : List Rows) → AllInOrder tables → IsInOrder path_cmp (tree_of lines tables)
tree_order [] tables all = tt
tree_order (line ∷ lines) [] all = tt
tree_order (line ∷ lines) (table ∷ tables) all = step line.filled (tree_order lines tables all.1)
  where
    step : (b : Bool) → IsInOrder path_cmp (tree_of lines tables) → IsInOrder path_cmp (if b then table else view (tree_of lines tables) table)
    step true h = all.0
    step false h = IsInOrder-view (tree_of lines tables) table h all.0

next_order : (numbers : List ℕ) (lines : List Line) (tables : List Rows) → AllInOrder tables → IsInOrder path_cmp (next_tree numbers lines tables)
next_order numbers [] tables all = tt
next_order numbers (line ∷ lines) [] all = tt
next_order numbers (line ∷ lines) (table ∷ tables) all = step (is_gone numbers line.number) (next_order numbers lines tables all.1) (tree_order (line ∷ lines) (table ∷ tables) all)
  where
    step : (b : Bool) → IsInOrder path_cmp (next_tree numbers lines tables) → IsInOrder path_cmp (tree_of (line ∷ lines) (table ∷ tables))
        → IsInOrder path_cmp (if b then next_tree numbers lines tables else tree_of (line ∷ lines) (table ∷ tables))
    step true rest here = rest
    step false rest here = here

-- a backup's rows that differ from the next tree that stays
here_of : (id : PoolId) (line : Line) (table newer : Rows) (lines : List Line) (tables : List Rows) (run : ℕ) → AllInOrder (table ∷ tables)
    → IsInOrder path_cmp newer → occurrences id (reverse (tree_of lines tables) newer) ≤ run
    → occurrences id (reverse (tree_of (line ∷ lines) (table ∷ tables)) newer) ≤ occurrences id table + run
here_of id line table newer lines tables run all n rest = step line.filled
  where
    step : (b : Bool) → occurrences id (reverse (if b then table else view (tree_of lines tables) table) newer) ≤ occurrences id table + run
    step true = let e = few_of_older id table newer all.0 n in omega (arith, e)
    step false = let e = few_of_view id (tree_of lines tables) table newer (tree_order lines tables all.1) all.0 n in omega (arith, e, rest)

within_run : (id : PoolId) (numbers : List ℕ) (lines : List Line) (tables : List Rows) → AllInOrder tables
    → occurrences id (reverse (tree_of lines tables) (next_tree numbers lines tables)) ≤ run_total id numbers lines tables
within_run id numbers [] tables all = omega arith
within_run id numbers (line ∷ lines) [] all = omega arith
within_run id numbers (line ∷ lines) (table ∷ tables) all = step (is_gone numbers line.number) (within_run id numbers lines tables all.1)
  where
    tree : Rows
    tree = tree_of (line ∷ lines) (table ∷ tables)

    step : (b : Bool) → occurrences id (reverse (tree_of lines tables) (next_tree numbers lines tables)) ≤ run_total id numbers lines tables
        → occurrences id (reverse tree (if b then next_tree numbers lines tables else tree))
        ≤ (if b then occurrences id table + run_total id numbers lines tables else 0)
    step true rest = here_of id line table (next_tree numbers lines tables) lines tables (run_total id numbers lines tables) all
        (next_order numbers lines tables all.1) rest
    step false rest = none_of_itself id tree (tree_order (line ∷ lines) (table ∷ tables) all)

-- what is added, and the run that is still to be folded, was taken
added_and_run : (id : PoolId) (numbers : List ℕ) (lines : List Line) (tables : List Rows) → AllInOrder tables
    → total id (added_tables (changes numbers lines tables)) + run_total id numbers lines tables ≤ total id (taken_tables numbers lines tables)
added_and_run id numbers [] tables all = omega arith
added_and_run id numbers (line ∷ lines) [] all = omega arith
added_and_run id numbers (line ∷ lines) (table ∷ tables) all =
    subst (λ (n : ℕ). n + run_total id numbers (line ∷ lines) (table ∷ tables) ≤ total id (taken_tables numbers (line ∷ lines) (table ∷ tables)))
    (sym (added_total id (changes numbers lines tables) (option_to_list (change_of numbers line table lines tables))))
    (step (is_gone numbers line.number) (needs_fold numbers line lines) (added_and_run id numbers lines tables all.1))
  where
    new : Rows
    new = reverse (tree_of (line ∷ lines) (table ∷ tables)) (next_tree numbers lines tables)

    few : occurrences id new ≤ occurrences id table + run_total id numbers lines tables
    few = here_of id line table (next_tree numbers lines tables) lines tables (run_total id numbers lines tables) all
        (next_order numbers lines tables all.1) (within_run id numbers lines tables all.1)

    added : ℕ
    added = total id (added_tables (changes numbers lines tables))

    taken : List Rows
    taken = taken_tables numbers lines tables

    run : ℕ
    run = run_total id numbers lines tables

    removed : (a r t here : ℕ) → a + r ≤ t → (a + 0) + (here + r) ≤ here + t
    removed a r t here e = omega (arith, e)

    folded : (a r t here there : ℕ) → a + r ≤ t → there ≤ here + r → (a + (there + 0)) + 0 ≤ here + t
    folded a r t here there e f = omega (arith, e, f)

    unchanged : (a r t : ℕ) → a + r ≤ t → (a + 0) + 0 ≤ t
    unchanged a r t e = omega (arith, e)

    step : (g nf : Bool) → added + run ≤ total id taken
        → (added + total id (added_tables (option_to_list (if g then Some (line.number, None) else replaced line.number (if nf then Some new else None)))))
        + (if g then occurrences id table + run else 0)
        ≤ total id (if g || nf then table ∷ taken else taken)
    step true nf e = removed added run (total id taken) (occurrences id table) e
    step false true e = folded added run (total id taken) (occurrences id table) (occurrences id new) e few
    step false false e = unchanged added run (total id taken) e

-- what is added was taken
pub added-within : (id : PoolId) (numbers : List ℕ) (lines : List Line) (tables : List Rows) → AllInOrder tables
    → total id (added_tables (changes numbers lines tables)) ≤ total id (taken_tables numbers lines tables)
added-within id numbers lines tables all = let e = added_and_run id numbers lines tables all in omega (arith, e)
