-- The removals and puts that lead from an older tree to a newer one give the newer one.
use Rattle.std.specs.Prelude.{◌≡◌, ℕ, zero, suc, ◌≤◌, ◌<◌, ◌⊎◌, Bool, true, false, not, cond, ◌||◌, ◌==◌, List, [], ◌∷◌, ◌++◌, length, Option, Some, None, is_some, if◌then◌else◌}
use Rattle.std.specs.List.{list_any}
use Rattle.std.specs.declared.cmp.Ordering.{Ordering}
use Rattle.std.specs.declared.cmp.Ordering.TheVariants.{Less, Equal, Greater}
use Rattle.std.specs.Ordering.{eq_by_cmp, is_eq}
use Rattle.std.specs.Cmp.{tied_itself, Equal-is, first_so, second_so}
use Rattle.std.specs.FinMap.Entries.{find-where_key}
use Rattle.std.proofs.Common.{refl, sym, ap, subst, ◌∙◌, inl, inr, arith, length-append}
use Rattle.std.proofs.lemmas.Bool.{true≢false}
use Rattle.ordered_lists.specs.Order.{IsInOrder}
use Rattle.ordered_lists.specs.OrderLaws.{find_below, below_alike, IsInOrder-where_key}
use Rattle.ordered_lists.specs.MergeLaws.{find-merge, IsInOrder-merge}
use Rattle.attr_records.specs.Paths.{path_cmp, parent, is_within}
use Rattle.attr_records.specs.PathLaws.{path_cmp_total, path_cmp_exact, parent-parts, within-further, within-itself}
use Rattle.attr_records.specs.Trees.{node_at, with_node, without, is_dir_found, IsTree}
use Rattle.attr_records.specs.TreeLaws.{node_at-with_node, node_at-without, IsInOrder-with_node, IsInOrder-without, same_tree}
use borrow.Author.Tests.{eqb-true}
use Rattle.change_laws.specs.Changes.{alike, lies_in, topmost, without_all, with_all, lost, changed, lost_rows, changed_rows, brought}

-- the node of the upper rows, else that below
abbrev pub over : {X : Type 0} → Option X → Option X → Option X
over None below = below
over (Some node) below = Some node

-- compared Equal, they are the same path
pub same_path : (a b : List ℕ) → eq_by_cmp path_cmp a b ≡ true → a ≡ b
same_path a b e = path_cmp_exact a b ((Equal-is (path_cmp a b)).0 e)

pub same_itself : (a : List ℕ) → eq_by_cmp path_cmp a a ≡ true
same_itself a = ap is_eq (tied_itself path_cmp_total a)

-- what lies within a path is the path, or behind it and a slash
pub within-parts : (directory path : List ℕ) → is_within directory path ≡ true
    → (path ≡ directory) ⊎ ((rest : List ℕ) × (path ≡ directory ++ 47 ∷ rest))
within-parts [] [] h = inl refl
within-parts [] (byte ∷ path) h = inr (path, ap (λ b. b ∷ path) (eqb-true byte 47 h))
within-parts (a ∷ directory) [] h = cc
within-parts (a ∷ directory) (byte ∷ path) h =
    step (eqb-true a byte (first_so (a == byte) (is_within directory path) h)) (within-parts directory path (second_so (a == byte) (is_within directory path) h))
  where
    step : a ≡ byte → ((path ≡ directory) ⊎ ((rest : List ℕ) × (path ≡ directory ++ 47 ∷ rest)))
        → (byte ∷ path ≡ a ∷ directory) ⊎ ((rest : List ℕ) × (byte ∷ path ≡ a ∷ (directory ++ 47 ∷ rest)))
    step e (inl same) = inl (λ i. sym e i ∷ same i)
    step e (inr w) = inr (w.0, λ i. sym e i ∷ w.1 i)

-- a test gives one answer to one path
one_answer : (p : List ℕ → Bool) (q x : List ℕ) → path_cmp q x ≡ Equal → p x ≡ p q
one_answer p q x e = ap p (sym (path_cmp_exact q x e))

module _ {X : Type 0} where
  -- a row that is found passes the test that its path passes
  pub any_found : (p : List ℕ → Bool) (rows : List (List ℕ × X)) (path : List ℕ) → is_some (node_at rows path) ≡ true → p path ≡ true
      → list_any (λ row. p row.0) rows ≡ true
  any_found p [] path there passes = there
  any_found p (row ∷ rows) path there passes = step (eq_by_cmp path_cmp path row.0) refl there (any_found p rows path)
    where
      step : (b : Bool) → eq_by_cmp path_cmp path row.0 ≡ b → is_some (cond b (Some row.1) (node_at rows path)) ≡ true
          → (is_some (node_at rows path) ≡ true → p path ≡ true → list_any (λ row. p row.0) rows ≡ true)
          → (p row.0 || list_any (λ row. p row.0) rows) ≡ true
      step true same h rest = ap (λ b. b || list_any (λ row. p row.0) rows) (ap p (sym (same_path path row.0 same)) ∙ passes)
      step false other h rest = or_true (p row.0) (rest h passes)
        where
          or_true : (b : Bool) → list_any (λ row. p row.0) rows ≡ true → (b || list_any (λ row. p row.0) rows) ≡ true
          or_true true e = refl
          or_true false e = e

  -- a row of a list in order is found
  later_found : (row : List ℕ × X) (rows : List (List ℕ × X)) (path : List ℕ) → IsInOrder path_cmp (row ∷ rows)
      → is_some (node_at rows path) ≡ true → node_at (row ∷ rows) path ≡ node_at rows path
  later_found row rows path h there = step (path_cmp path row.0) refl
    where
      step : (r : Ordering) → path_cmp path row.0 ≡ r → cond (is_eq r) (Some row.1) (node_at rows path) ≡ node_at rows path
      step Less e = refl
      step Greater e = refl
      step Equal e =
          let none = find_below path_cmp path_cmp_total path rows (below_alike path_cmp path_cmp_total path row.0 rows e h.0) in
          absurd (true≢false (sym there ∙ ap is_some none))

  -- what is found behind a row is found
  pub later_other : (row : List ℕ × X) (rows : List (List ℕ × X)) (path : List ℕ) → IsInOrder path_cmp (row ∷ rows) → is_some (node_at rows path) ≡ true
      → is_some (node_at (row ∷ rows) path) ≡ true
  later_other row rows path h there = step (eq_by_cmp path_cmp path row.0)
    where
      step : (b : Bool) → is_some (cond b (Some row.1) (node_at rows path)) ≡ true
      step true = refl
      step false = there

  -- where some row passes the test, one is found whose path does
  pub found_any : (p : List ℕ → Bool) (rows : List (List ℕ × X)) → IsInOrder path_cmp rows → list_any (λ row. p row.0) rows ≡ true
      → (path : List ℕ) × (is_some (node_at rows path) ≡ true) × (p path ≡ true)
  found_any p [] h e = cc
  found_any p (row ∷ rows) h e = step (p row.0) refl e (found_any p rows h.1)
    where
      behind : ((path : List ℕ) × (is_some (node_at rows path) ≡ true) × (p path ≡ true))
          → (path : List ℕ) × (is_some (node_at (row ∷ rows) path) ≡ true) × (p path ≡ true)
      behind w = (w.0, ap is_some (later_found row rows w.0 h w.1) ∙ w.1, w.2)

      step : (b : Bool) → p row.0 ≡ b → (b || list_any (λ row. p row.0) rows) ≡ true
          → (list_any (λ row. p row.0) rows ≡ true → (path : List ℕ) × (is_some (node_at rows path) ≡ true) × (p path ≡ true))
          → (path : List ℕ) × (is_some (node_at (row ∷ rows) path) ≡ true) × (p path ≡ true)
      step true is _ rest = (row.0, ap (λ b. is_some (cond b (Some row.1) (node_at rows row.0))) (same_itself row.0), is)
      step false is more rest = behind (rest more)

  pub node_at-topmost : (rows : List (List ℕ × X)) (path : List ℕ)
      → node_at (topmost rows) path ≡ cond (not (lies_in rows (parent path))) (node_at rows path) None
  node_at-topmost rows path =
      find-where_key path_cmp (λ p. not (lies_in rows (parent p))) path (one_answer (λ p. not (lies_in rows (parent p))) path) rows

  -- what is left behind the removals
  pub node_at-without_all : (rows tree : List (List ℕ × X)) (path : List ℕ)
      → node_at (without_all rows tree) path ≡ cond (list_any (λ row. is_within row.0 path) rows) None (node_at tree path)
  node_at-without_all [] tree path = refl
  node_at-without_all (row ∷ rows) tree path =
      node_at-without_all rows (without tree row.0) path
      ∙ ap (cond (list_any (λ row. is_within row.0 path) rows) None) (node_at-without tree row.0 path)
      ∙ step (is_within row.0 path) (list_any (λ row. is_within row.0 path) rows)
    where
      step : (a b : Bool) → cond b None (cond (not a) (node_at tree path) None) ≡ cond (a || b) None (node_at tree path)
      step true true = refl
      step true false = refl
      step false true = refl
      step false false = refl

  pub IsInOrder-without_all : (rows tree : List (List ℕ × X)) → IsInOrder path_cmp tree → IsInOrder path_cmp (without_all rows tree)
  IsInOrder-without_all [] tree h = h
  IsInOrder-without_all (row ∷ rows) tree h = IsInOrder-without_all rows (without tree row.0) (IsInOrder-without tree row.0 h)

  -- what is there after the puts
  pub node_at-with_all : (rows tree : List (List ℕ × X)) → IsInOrder path_cmp rows → (path : List ℕ)
      → node_at (with_all rows tree) path ≡ over (node_at rows path) (node_at tree path)
  node_at-with_all [] tree h path = refl
  node_at-with_all (row ∷ rows) tree h path =
      node_at-with_all rows (with_node tree row.0 row.1) h.1 path
      ∙ ap (over (node_at rows path)) (node_at-with_node tree row.0 row.1 path)
      ∙ step (path_cmp path row.0) refl
    where
      step : (r : Ordering) → path_cmp path row.0 ≡ r
          → over (node_at rows path) (cond (is_eq r) (Some row.1) (node_at tree path)) ≡ over (cond (is_eq r) (Some row.1) (node_at rows path)) (node_at tree path)
      step Less e = refl
      step Greater e = refl
      step Equal e =
          ap (λ found. over found (Some row.1)) (find_below path_cmp path_cmp_total path rows (below_alike path_cmp path_cmp_total path row.0 rows e h.0))

  pub IsInOrder-with_all : (rows tree : List (List ℕ × X)) → IsInOrder path_cmp tree → IsInOrder path_cmp (with_all rows tree)
  IsInOrder-with_all [] tree h = h
  IsInOrder-with_all (row ∷ rows) tree h = IsInOrder-with_all rows (with_node tree row.0 row.1) (IsInOrder-with_node tree row.0 row.1 h)

  -- a path below a directory that lies within one of these lies there too
  further : (directory name : List ℕ) (tops : List (List ℕ × X))
      → list_any (λ row. is_within row.0 directory) tops ≡ true → list_any (λ row. is_within row.0 (directory ++ 47 ∷ name)) tops ≡ true
  further directory name [] h = h
  further directory name (top ∷ tops) h = step (is_within top.0 directory) refl h (further directory name tops)
    where
      or_true : (a b : Bool) → b ≡ true → (a || b) ≡ true
      or_true true b e = refl
      or_true false b e = e

      step : (b : Bool) → is_within top.0 directory ≡ b → (b || list_any (λ row. is_within row.0 directory) tops) ≡ true
          → (list_any (λ row. is_within row.0 directory) tops ≡ true → list_any (λ row. is_within row.0 (directory ++ 47 ∷ name)) tops ≡ true)
          → (is_within top.0 (directory ++ 47 ∷ name) || list_any (λ row. is_within row.0 (directory ++ 47 ∷ name)) tops) ≡ true
      step true within h rest =
          ap (λ b. b || list_any (λ row. is_within row.0 (directory ++ 47 ∷ name)) tops) (within-further top.0 directory name within)
      step false within h rest =
          or_true (is_within top.0 (directory ++ 47 ∷ name)) (list_any (λ row. is_within row.0 (directory ++ 47 ∷ name)) tops) (rest h)

  -- a row lies within a topmost one, if those of shorter paths do
  topmost_above : (rows : List (List ℕ × X)) (path : List ℕ) → is_some (node_at rows path) ≡ true
      → ((directory : List ℕ) → length directory < length path → is_some (node_at rows directory) ≡ true
      → list_any (λ row. is_within row.0 directory) (topmost rows) ≡ true)
      → list_any (λ row. is_within row.0 path) (topmost rows) ≡ true
  topmost_above rows path there rest = step (parent path) refl (lies_in rows (parent path)) refl
    where
      step : (directory : Option (List ℕ)) → parent path ≡ directory → (b : Bool) → lies_in rows (parent path) ≡ b
          → list_any (λ row. is_within row.0 path) (topmost rows) ≡ true
      step directory is false e =
          any_found (λ p. is_within p path) (topmost rows) path
          (ap is_some (node_at-topmost rows path) ∙ ap (λ b. is_some (cond (not b) (node_at rows path) None)) e ∙ there)
          (within-itself path)
      step None is true e = absurd (true≢false (sym e ∙ ap (lies_in rows) is))
      step (Some directory) is true e =
          let w : (name : List ℕ) × (path ≡ directory ++ 47 ∷ name) × (parent name ≡ None) = parent-parts path directory is in
          let shorter : length directory < length path = omega (arith, ap length w.1, length-append directory (47 ∷ w.0)) in
          subst (λ p. list_any (λ row. is_within row.0 p) (topmost rows) ≡ true) (sym w.1)
          (further directory w.0 (topmost rows) (rest directory shorter (ap (lies_in rows) (sym is) ∙ e)))

  below_topmost : (most : ℕ) (rows : List (List ℕ × X)) (path : List ℕ) → length path ≤ most → is_some (node_at rows path) ≡ true
      → list_any (λ row. is_within row.0 path) (topmost rows) ≡ true
  below_topmost zero rows path short there = topmost_above rows path there (λ directory shorter _. absurd (omega arith))
  below_topmost (suc most) rows path short there =
      topmost_above rows path there (λ directory shorter found. below_topmost most rows directory (omega arith) found)

  pub lies_within_topmost : (rows : List (List ℕ × X)) (path : List ℕ) → is_some (node_at rows path) ≡ true
      → list_any (λ row. is_within row.0 path) (topmost rows) ≡ true
  lies_within_topmost rows path there = below_topmost (length path) rows path (omega arith) there

  pub node_at-lost : (is_dir : X → Bool) (newer older : List (List ℕ × X)) → IsInOrder path_cmp newer → IsInOrder path_cmp older → (path : List ℕ)
      → node_at (lost_rows is_dir newer older) path ≡ lost is_dir (node_at newer path) (node_at older path)
  node_at-lost is_dir newer older g h path = find-merge path_cmp (lost is_dir) path_cmp_total refl path newer older g h

  pub node_at-changed : (is_same : X → X → Bool) (newer older : List (List ℕ × X)) → IsInOrder path_cmp newer → IsInOrder path_cmp older → (path : List ℕ)
      → node_at (changed_rows is_same newer older) path ≡ changed is_same (node_at newer path) (node_at older path)
  node_at-changed is_same newer older g h path = find-merge path_cmp (changed is_same) path_cmp_total refl path newer older g h

  pub IsInOrder-lost : (is_dir : X → Bool) (newer older : List (List ℕ × X)) → IsInOrder path_cmp newer → IsInOrder path_cmp older
      → IsInOrder path_cmp (lost_rows is_dir newer older)
  IsInOrder-lost is_dir newer older g h = IsInOrder-merge path_cmp (lost is_dir) path_cmp_total newer older g h

  pub IsInOrder-changed : (is_same : X → X → Bool) (newer older : List (List ℕ × X)) → IsInOrder path_cmp newer → IsInOrder path_cmp older
      → IsInOrder path_cmp (changed_rows is_same newer older)
  IsInOrder-changed is_same newer older g h = IsInOrder-merge path_cmp (changed is_same) path_cmp_total newer older g h

  pub IsInOrder-topmost : (rows : List (List ℕ × X)) → IsInOrder path_cmp rows → IsInOrder path_cmp (topmost rows)
  IsInOrder-topmost rows h = IsInOrder-where_key path_cmp (λ p. not (lies_in rows (parent p))) rows h

  module _ (is_dir : X → Bool) (is_same : X → X → Bool) (same : (a b : X) → is_same a b ≡ true → a ≡ b) where
    -- nodes of which one is a Dir and the other isn't are not the same
    not_same : (a b : X) → alike (is_dir a) (is_dir b) ≡ false → is_same a b ≡ false
    not_same a b apart = step (is_same a b) refl
      where
        like : (b : Bool) → alike b b ≡ true
        like true = refl
        like false = refl

        step : (s : Bool) → is_same a b ≡ s → is_same a b ≡ false
        step false e = e
        step true e =
            absurd (true≢false (sym (like (is_dir a)) ∙ ap (λ x. alike (is_dir a) (is_dir x)) (same a b e) ∙ apart))

    module _ (newer older : List (List ℕ × X)) (new : IsTree is_dir newer) (old : IsTree is_dir older) where
      -- two Dirs lose nothing
      no_loss : (n o : Option X) → is_dir_found is_dir n ≡ true → is_dir_found is_dir o ≡ true → is_some (lost is_dir n o) ≡ true → ⊥
      no_loss None o a b e = true≢false (sym a)
      no_loss (Some x) None a b e = true≢false (sym b)
      no_loss (Some x) (Some y) a b e =
          true≢false (sym e ∙ ap (λ t. is_some (if alike t (is_dir y) then None else Some y)) a ∙ ap (λ t. is_some (if t then None else Some y)) b)

      -- within a path that was removed nothing stays as it was
      changed_below : (path q : List ℕ) → is_some (lost is_dir (node_at newer path) (node_at older path)) ≡ true
          → is_within path q ≡ true → changed is_same (node_at newer q) (node_at older q) ≡ node_at newer q
      changed_below path q gone within = step (within-parts path q within)
        where
          at_path : (n o : Option X) → is_some (lost is_dir n o) ≡ true → changed is_same n o ≡ n
          at_path None o e = refl
          at_path (Some x) None e = refl
          at_path (Some x) (Some y) e = kind (alike (is_dir x) (is_dir y)) refl e
            where
              kind : (b : Bool) → alike (is_dir x) (is_dir y) ≡ b → is_some (if b then None else Some y) ≡ true
                  → (if is_same x y then None else Some x) ≡ Some x
              kind true is h = absurd (true≢false (sym h))
              kind false is h = ap (λ b. if b then None else Some x) (not_same x y is)

          below : (rest : List ℕ) → (n o : Option X) → node_at newer (path ++ 47 ∷ rest) ≡ n → node_at older (path ++ 47 ∷ rest) ≡ o
              → changed is_same n o ≡ n
          below rest None o a b = refl
          below rest (Some x) None a b = refl
          below rest (Some x) (Some y) a b =
              absurd (no_loss (node_at newer path) (node_at older path) (new.parents path rest (ap is_some a)) (old.parents path rest (ap is_some b)) gone)

          step : ((q ≡ path) ⊎ ((rest : List ℕ) × (q ≡ path ++ 47 ∷ rest)))
              → changed is_same (node_at newer q) (node_at older q) ≡ node_at newer q
          step (inl e) =
              subst (λ p. changed is_same (node_at newer p) (node_at older p) ≡ node_at newer p) (sym e) (at_path (node_at newer path) (node_at older path) gone)
          step (inr w) =
              subst (λ p. changed is_same (node_at newer p) (node_at older p) ≡ node_at newer p) (sym w.1) (below w.0 (node_at newer (path ++ 47 ∷ w.0)) (node_at older (path ++ 47 ∷ w.0)) refl refl)

      abbrev pub losses : List (List ℕ × X)
      losses = lost_rows is_dir newer older

      -- a topmost loss is a loss
      pub topmost_lost : (path : List ℕ) → is_some (node_at (topmost losses) path) ≡ true
          → is_some (lost is_dir (node_at newer path) (node_at older path)) ≡ true
      topmost_lost path there =
          ap is_some (sym (node_at-lost is_dir newer older new.in_order old.in_order path))
          ∙ step (lies_in losses (parent path)) (ap is_some (sym (node_at-topmost losses path)) ∙ there)
        where
          step : (b : Bool) → is_some (cond (not b) (node_at losses path) None) ≡ true → is_some (node_at losses path) ≡ true
          step true e = absurd (true≢false (sym e))
          step false e = e

      -- what is there in the end
      pub reached : (q : List ℕ) (b : Bool) → list_any (λ row. is_within row.0 q) (topmost losses) ≡ b → IsInOrder path_cmp (topmost losses)
          → over (changed is_same (node_at newer q) (node_at older q)) (cond b None (node_at older q)) ≡ node_at newer q
      reached q true swept order =
          let w : (path : List ℕ) × (is_some (node_at (topmost losses) path) ≡ true) × (is_within path q ≡ true) =
          found_any (λ p. is_within p q) (topmost losses) order swept in
          ap (λ c. over c None) (changed_below w.0 q (topmost_lost w.0 w.1) w.2) ∙ alone (node_at newer q)
        where
          alone : (n : Option X) → over n None ≡ n
          alone None = refl
          alone (Some x) = refl
      reached q false kept order = step (node_at newer q) (node_at older q) (still (is_some (lost is_dir (node_at newer q) (node_at older q))) refl)
        where
          still : (b : Bool) → is_some (lost is_dir (node_at newer q) (node_at older q)) ≡ b
              → is_some (lost is_dir (node_at newer q) (node_at older q)) ≡ false
          still false e = e
          still true e =
              absurd (true≢false (sym (lies_within_topmost losses q (ap is_some (node_at-lost is_dir newer older new.in_order old.in_order q) ∙ e)) ∙ kept))

          step : (n o : Option X) → is_some (lost is_dir n o) ≡ false → over (changed is_same n o) o ≡ n
          step None None e = refl
          step None (Some y) e = absurd (true≢false e)
          step (Some x) None e = refl
          step (Some x) (Some y) e = one (is_same x y) refl
            where
              one : (b : Bool) → is_same x y ≡ b → over (if b then None else Some x) (Some y) ≡ Some x
              one true s = ap Some (sym (same x y s))
              one false s = refl

      pub in_order_topmost : IsInOrder path_cmp (topmost losses)
      in_order_topmost = IsInOrder-topmost losses (IsInOrder-lost is_dir newer older new.in_order old.in_order)

      pub in_order_changed : IsInOrder path_cmp (changed_rows is_same newer older)
      in_order_changed = IsInOrder-changed is_same newer older new.in_order old.in_order

      -- the older tree, after the removals and the puts, is the newer one
      pub brought-is : brought is_dir is_same newer older ≡ newer
      brought-is =
          same_tree (brought is_dir is_same newer older) newer
          (IsInOrder-with_all (changed_rows is_same newer older) (without_all (topmost losses) older) (IsInOrder-without_all (topmost losses) older old.in_order))
          new.in_order
          (λ q. node_at-with_all (changed_rows is_same newer older) (without_all (topmost losses) older) in_order_changed q
          ∙ (λ i. over (node_at-changed is_same newer older new.in_order old.in_order q i) (node_at-without_all (topmost losses) older q i))
          ∙ reached q (list_any (λ row. is_within row.0 q) (topmost losses)) refl in_order_topmost)
