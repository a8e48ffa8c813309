-- No put that leads from an older tree to a newer one breaks a rule.
use Rattle.std.specs.Prelude.{◌≡◌, ℕ, ◌+◌, ◌≤◌, nat_le, Bool, true, false, not, cond, ◌&&◌, List, [], ◌∷◌, ◌++◌, length, Option, Some, None, is_some, if◌then◌else◌}
use Rattle.std.specs.List.{list_any}
use Rattle.std.specs.declared.cmp.Ordering.{Ordering}
use Rattle.std.specs.declared.cmp.Ordering.TheVariants.{Less, Equal, Greater}
use Rattle.std.specs.Ordering.{eq_by_cmp, is_eq, ordering_then, ordering_reverse}
use Rattle.std.specs.Cmp.{tied_itself, alike_right}
use Rattle.std.proofs.Common.{refl, sym, ap, ◌∙◌, arith}
use Rattle.std.proofs.lemmas.Bool.{true≢false}
use Rattle.std.proofs.lemmas.Bool.Decides.{nat_tests}
use Rattle.ordered_lists.specs.Order.{IsInOrder}
use Rattle.ordered_lists.specs.OrderLaws.{find_below, below_alike, below_through}
use Rattle.attr_records.specs.Paths.{path_cmp, parent, is_within}
use Rattle.attr_records.specs.PathLaws.{byte_cmp_total, path_cmp_total, parent-parts}
use Rattle.attr_records.specs.declared.trees.PutRule.TheVariants.{NoParent, IsDirectory, TooManyEntries, FileTooLarge}
use Rattle.attr_records.specs.Trees.{node_at, with_node, is_dir_found, is_dir_at, is_parent_in, IsTree, broken_put}
use Rattle.attr_records.specs.TreeLaws.{node_at-with_node, IsInOrder-with_node, length-with_node}
use Rattle.change_laws.specs.Changes.{alike, topmost, without_all, lost, lost_rows, changed_rows, AreAllowed}
use Rattle.change_laws.specs.BroughtLaws.{over, same_path, same_itself, later_other, node_at-lost, node_at-changed, node_at-without_all, IsInOrder-without_all, lies_within_topmost, in_order_topmost, in_order_changed, reached}

module _ {X : Type 0} where
  -- a list in order all of whose paths another has is no longer
  pub length-subset : (es fs : List (List ℕ × X)) → IsInOrder path_cmp es → IsInOrder path_cmp fs
      → ((path : List ℕ) → is_some (node_at es path) ≡ true → is_some (node_at fs path) ≡ true) → length es ≤ length fs
  length-subset [] fs g h sub = omega arith
  length-subset (e ∷ es) [] g h sub = absurd (true≢false (sym (sub e.0 (ap (λ b. is_some (cond b (Some e.1) (node_at es e.0))) (same_itself e.0)))))
  length-subset (e ∷ es) (f ∷ fs) g h sub =
      step (path_cmp e.0 f.0) refl (length-subset es fs g.1 h.1) (length-subset (e ∷ es) fs g h.1)
    where
      here : is_some (node_at (e ∷ es) e.0) ≡ true
      here = ap (λ b. is_some (cond b (Some e.1) (node_at es e.0))) (same_itself e.0)

      -- a path that is found behind the first isn't the first's
      above_first : (path : List ℕ) → is_some (node_at es path) ≡ true → (r : Ordering) → path_cmp path e.0 ≡ r → eq_by_cmp path_cmp path e.0 ≡ false
      above_first path there Less is = ap is_eq is
      above_first path there Greater is = ap is_eq is
      above_first path there Equal is =
          absurd (true≢false (sym there ∙ ap is_some (find_below path_cmp path_cmp_total path es (below_alike path_cmp path_cmp_total path e.0 es is g.0))))

      skip : (path : List ℕ) → eq_by_cmp path_cmp path f.0 ≡ false → is_some (node_at (f ∷ fs) path) ≡ true → is_some (node_at fs path) ≡ true
      skip path other there = ap (λ b. is_some (cond b (Some f.1) (node_at fs path))) (sym other) ∙ there

      -- no path of es is below e's
      not_below : (path : List ℕ) → is_some (node_at (e ∷ es) path) ≡ true → path_cmp path f.0 ≡ Equal → path_cmp e.0 f.0 ≡ Greater → ⊥
      not_below path there same greater =
          let less : path_cmp path e.0 ≡ Less = path_cmp_total.congr path f.0 e.0 same ∙ path_cmp_total.antisymm f.0 e.0 ∙ ap ordering_reverse greater in
          true≢false (sym there ∙ ap (λ b. is_some (cond b (Some e.1) (node_at es path))) (ap is_eq less)
          ∙ ap is_some (find_below path_cmp path_cmp_total path es (below_through path_cmp path_cmp_total path e.0 es less g.0)))

      other_than : (path : List ℕ) → is_some (node_at (e ∷ es) path) ≡ true → path_cmp e.0 f.0 ≡ Greater → (r : Ordering) → path_cmp path f.0 ≡ r
          → eq_by_cmp path_cmp path f.0 ≡ false
      other_than path there greater Less is = ap is_eq is
      other_than path there greater Greater is = ap is_eq is
      other_than path there greater Equal is = absurd (not_below path there is greater)

      step : (r : Ordering) → path_cmp e.0 f.0 ≡ r
          → (((path : List ℕ) → is_some (node_at es path) ≡ true → is_some (node_at fs path) ≡ true) → length es ≤ length fs)
          → (((path : List ℕ) → is_some (node_at (e ∷ es) path) ≡ true → is_some (node_at fs path) ≡ true) → length (e ∷ es) ≤ length fs)
          → length (e ∷ es) ≤ length (f ∷ fs)
      step Less is both right =
          let none = find_below path_cmp path_cmp_total e.0 fs (below_through path_cmp path_cmp_total e.0 f.0 fs is h.0) in
          absurd (true≢false (sym (skip e.0 (ap is_eq is) (sub e.0 here)) ∙ ap is_some none))
      step Equal is both right =
          let fewer : length es ≤ length fs =
          both (λ path there.
          skip path (ap is_eq (sym (alike_right path_cmp_total e.0 f.0 path is)) ∙ above_first path there (path_cmp path e.0) refl) (sub path (later_other e es path g there))) in
          omega (arith, fewer)
      step Greater is both right =
          let fewer : length (e ∷ es) ≤ length fs = right (λ path there. skip path (other_than path there is (path_cmp path f.0) refl) (sub path there)) in
          omega (arith, fewer)

-- a directory comes before what lies below it
pub below_directory : (directory rest : List ℕ) → path_cmp directory (directory ++ 47 ∷ rest) ≡ Less
below_directory [] rest = refl
below_directory (byte ∷ directory) rest =
    ap (λ r. ordering_then r (path_cmp directory (directory ++ 47 ∷ rest))) (tied_itself byte_cmp_total byte) ∙ below_directory directory rest

module _ {X : Type 0} (is_dir : X → Bool) (is_same : X → X → Bool) (same : (a b : X) → is_same a b ≡ true → a ≡ b) (is_large : X → Bool) (newer : List (List ℕ × X)) (new : IsTree is_dir newer) where
  -- these rows bring a tree to the newer one, which has nothing of another kind
  pub record Brings (rows tree : List (List ℕ × X)) : Type 0 where
    pub rows_order : IsInOrder path_cmp rows
    pub tree_order : IsInOrder path_cmp tree
    pub brings : (path : List ℕ) → over (node_at rows path) (node_at tree path) ≡ node_at newer path
    pub kinds : (path : List ℕ) → is_some (lost is_dir (node_at newer path) (node_at tree path)) ≡ false

  like : (b : Bool) → alike b b ≡ true
  like true = refl
  like false = refl

  loses_nothing : (x : X) → is_some (lost is_dir (Some x) (Some x)) ≡ false
  loses_nothing x = ap (λ b. is_some (if b then None else Some x)) (like (is_dir x))

  module _ (row : List ℕ × X) (rows tree : List (List ℕ × X)) (b : Brings (row ∷ rows) tree) where
    -- what is put is what the newer tree has
    put_is : node_at newer row.0 ≡ Some row.1
    put_is = sym (b.brings row.0) ∙ ap (λ t. over (cond t (Some row.1) (node_at rows row.0)) (node_at tree row.0)) (same_itself row.0)

    next-brings : (path : List ℕ) → over (node_at rows path) (node_at (with_node tree row.0 row.1) path) ≡ node_at newer path
    next-brings path =
        ap (over (node_at rows path)) (node_at-with_node tree row.0 row.1 path) ∙ step (path_cmp path row.0) refl ∙ b.brings path
      where
        step : (r : Ordering) → path_cmp path row.0 ≡ r
            → over (node_at rows path) (cond (is_eq r) (Some row.1) (node_at tree path)) ≡ over (cond (is_eq r) (Some row.1) (node_at rows path)) (node_at tree path)
        step Less e = refl
        step Greater e = refl
        step Equal e =
            ap (λ found. over found (Some row.1)) (find_below path_cmp path_cmp_total path rows (below_alike path_cmp path_cmp_total path row.0 rows e b.rows_order.0))

    next-kinds : (path : List ℕ) → is_some (lost is_dir (node_at newer path) (node_at (with_node tree row.0 row.1) path)) ≡ false
    next-kinds path =
        ap (λ o. is_some (lost is_dir (node_at newer path) o)) (node_at-with_node tree row.0 row.1 path) ∙ step (eq_by_cmp path_cmp path row.0) refl
      where
        step : (t : Bool) → eq_by_cmp path_cmp path row.0 ≡ t → is_some (lost is_dir (node_at newer path) (cond t (Some row.1) (node_at tree path))) ≡ false
        step true e =
            ap (λ n. is_some (lost is_dir n (Some row.1))) (ap (node_at newer) (same_path path row.0 e) ∙ put_is) ∙ loses_nothing row.1
        step false e = b.kinds path

    next : Brings rows (with_node tree row.0 row.1)
    next = record {
      rows_order = b.rows_order.1;
      tree_order = IsInOrder-with_node tree row.0 row.1 b.tree_order;
      brings = λ path. next-brings path;
      kinds = λ path. next-kinds path;
    }

    -- the directory is there
    parent_there : is_parent_in is_dir tree (parent row.0) ≡ true
    parent_there = step (parent row.0) refl
      where
        step : (over_path : Option (List ℕ)) → parent row.0 ≡ over_path → is_parent_in is_dir tree over_path ≡ true
        step None is = refl
        step (Some directory) is =
            let w : (name : List ℕ) × (row.0 ≡ directory ++ 47 ∷ name) × (parent name ≡ None) = parent-parts row.0 directory is in
            let less : path_cmp directory row.0 ≡ Less = ap (path_cmp directory) w.1 ∙ below_directory directory w.0 in
            let none : node_at (row ∷ rows) directory ≡ None =
            find_below path_cmp path_cmp_total directory (row ∷ rows) (less, below_through path_cmp path_cmp_total directory row.0 rows less b.rows_order.0) in
            ap (is_dir_found is_dir) (ap (λ o. over o (node_at tree directory)) (sym none) ∙ b.brings directory)
            ∙ new.parents directory w.0 (ap is_some (ap (node_at newer) (sym w.1) ∙ put_is))

    not_over_dir : (is_dir_at is_dir tree row.0 && not (is_dir row.1)) ≡ false
    not_over_dir = step (node_at tree row.0) (ap (λ n. is_some (lost is_dir n (node_at tree row.0))) (sym put_is) ∙ b.kinds row.0)
      where
        kind : (x y : Bool) (z : X) → is_some (if alike x y then None else Some z) ≡ false → (y && not x) ≡ false
        kind true true z e = refl
        kind false false z e = refl
        kind true false z e = refl
        kind false true z e = absurd (true≢false e)

        step : (o : Option X) → is_some (lost is_dir (Some row.1) o) ≡ false → (is_dir_found is_dir o && not (is_dir row.1)) ≡ false
        step None e = refl
        step (Some y) e = kind (is_dir row.1) (is_dir y) y e

    few : length newer ≤ 1048576 → (nat_le 1048576 (length tree) && not (is_some (node_at tree row.0))) ≡ false
    few most =
        step (is_some (node_at tree row.0)) (length-with_node tree row.0 row.1 b.tree_order)
        (length-subset (with_node tree row.0 row.1) newer next.tree_order new.in_order (λ path there. kept (node_at newer path) (node_at (with_node tree row.0 row.1) path) there (next.kinds path)))
      where
        kept : (n o : Option X) → is_some o ≡ true → is_some (lost is_dir n o) ≡ false → is_some n ≡ true
        kept (Some x) o there e = refl
        kept None None there e = there
        kept None (Some y) there e = absurd (true≢false e)

        step : (t : Bool) → length (with_node tree row.0 row.1) ≡ cond t (length tree) (length tree + 1) → length (with_node tree row.0 row.1) ≤ length newer
            → (nat_le 1048576 (length tree) && not t) ≡ false
        step true is fits = second_false (nat_le 1048576 (length tree))
          where
            second_false : (a : Bool) → (a && false) ≡ false
            second_false true = refl
            second_false false = refl
        step false is fits = grind (arith, nat_tests)

    allowed-one : length newer ≤ 1048576 → is_large row.1 ≡ false → broken_put is_dir is_large tree row.0 row.1 ≡ None
    allowed-one most small =
        ap (λ t. if not t then Some NoParent else (if is_dir_at is_dir tree row.0 && not (is_dir row.1) then Some IsDirectory
        else (if nat_le 1048576 (length tree) && not (is_some (node_at tree row.0)) then Some TooManyEntries else (if is_large row.1 then Some FileTooLarge else None)))) parent_there
        ∙ ap (λ t. if t then Some IsDirectory else (if nat_le 1048576 (length tree) && not (is_some (node_at tree row.0)) then Some TooManyEntries else (if is_large row.1 then Some FileTooLarge else None))) not_over_dir
        ∙ ap (λ t. if t then Some TooManyEntries else (if is_large row.1 then Some FileTooLarge else None)) (few most)
        ∙ ap (λ t. if t then Some FileTooLarge else None) small

  -- no put of rows that bring a tree to the newer one breaks a rule
  pub allowed-all : (rows tree : List (List ℕ × X)) → Brings rows tree → length newer ≤ 1048576
      → ((path : List ℕ) (node : X) → node_at newer path ≡ Some node → is_large node ≡ false) → AreAllowed is_dir is_large rows tree
  allowed-all [] tree b most small = tt
  allowed-all (row ∷ rows) tree b most small =
      (allowed-one row rows tree b most (small row.0 row.1 (put_is row rows tree b)), allowed-all rows (with_node tree row.0 row.1) (next row rows tree b) most small)

  module _ (older : List (List ℕ × X)) (old : IsTree is_dir older) where
    abbrev gone : List (List ℕ × X)
    gone = topmost (lost_rows is_dir newer older)

    -- what was removed leaves nothing of another kind
    left-kinds : (path : List ℕ) → is_some (lost is_dir (node_at newer path) (node_at (without_all gone older) path)) ≡ false
    left-kinds path =
        ap (λ o. is_some (lost is_dir (node_at newer path) o)) (node_at-without_all gone older path)
        ∙ step (list_any (λ row. is_within row.0 path) gone) refl
      where
        still : (t : Bool) → is_some (lost is_dir (node_at newer path) (node_at older path)) ≡ t → list_any (λ row. is_within row.0 path) gone ≡ false
            → is_some (lost is_dir (node_at newer path) (node_at older path)) ≡ false
        still false e kept = e
        still true e kept =
            absurd (true≢false (sym (lies_within_topmost (lost_rows is_dir newer older) path (ap is_some (node_at-lost is_dir newer older new.in_order old.in_order path) ∙ e)) ∙ kept))

        step : (t : Bool) → list_any (λ row. is_within row.0 path) gone ≡ t → is_some (lost is_dir (node_at newer path) (cond t None (node_at older path))) ≡ false
        step true e = refl
        step false e = still (is_some (lost is_dir (node_at newer path) (node_at older path))) refl e

    -- no put breaks a rule
    pub puts-allowed : length newer ≤ 1048576 → ((path : List ℕ) (node : X) → node_at newer path ≡ Some node → is_large node ≡ false)
        → AreAllowed is_dir is_large (changed_rows is_same newer older) (without_all gone older)
    puts-allowed most small =
        allowed-all (changed_rows is_same newer older) (without_all gone older)
        (record {
          rows_order = in_order_changed is_dir is_same same newer older new old;
          tree_order = IsInOrder-without_all gone older old.in_order;
          brings = λ path.
              (λ i. over (node_at-changed is_same newer older new.in_order old.in_order path i) (node_at-without_all gone older path i))
              ∙ reached is_dir is_same same newer older new old path (list_any (λ row. is_within row.0 path) gone) refl (in_order_topmost is_dir is_same same newer older new old);
          kinds = λ path. left-kinds path;
        })
        most small
