-- What rows are resolved to goes along with reverse, view, look-ups, puts and removals.
use Rattle.std.specs.Prelude.{◌≡◌, ℕ, Bool, true, false, List, [], ◌∷◌, length, Option, Some, None, if◌then◌else◌}
use Rattle.std.specs.Option.{option_map}
use Rattle.std.proofs.Common.{refl, sym, ap, ◌∙◌, subst}
use Rattle.disk_trait.specs.declared.ids.PoolId.{PoolId}
use Rattle.attr_records.specs.declared.nodes.Item.TheVariants.{File as ItemFile}
use Rattle.attr_records.specs.Paths.{path_cmp}
use Rattle.attr_records.specs.PathLaws.{path_cmp_total}
use Rattle.ordered_lists.specs.Order.{IsInOrder}
use Rattle.attr_records.specs.Trees.{node_at, with_node, without}
use Rattle.attr_records.specs.TreeLaws.{same_tree}
use Rattle.attr_tables.specs.declared.records.Record.{Record}
use Rattle.attr_tables.specs.declared.records.Record.TheVariants.{File, Dir, Link, Deleted}
use Rattle.attr_tables.specs.Records.{is_same_record}
use Rattle.ordered_lists.specs.MergeLaws.{find-merge, IsInOrder-merge}
use Rattle.merge_view.specs.Views.{Rows, is_marked, IsWhole, laid, difference, view, reverse}
use Rattle.merge_view.specs.ViewLaws.{unmarked, IsInOrder-view, IsInOrder-reverse, node_at-view, node_at-reverse}
use Rattle.stored_trees.specs.Values.{IfFound}
use Rattle.stored_trees.specs.ValueLaws.{find-map_values, IsInOrder-map_values, map_values-put, map_values-where_key, AllValues-find, AllValues-each, map_values-alike}
use Rattle.stored_trees.specs.Resolved.{bytes_of, resolved_item, resolved_entry, resolved, resolved_entries, IsTold, IsToldContent, AreTold, IsOneToOne}
use Rattle.stored_trees.specs.TreeViews.{item_difference, tree_reverse, item_laid, tree_view}
use Rattle.stored_trees.specs.NodeLaws.{unmarked_entry, same_resolved, same_test}

abbrev first_or : {K X : Type 0} → K × X → List (K × X) → K × X
first_or d [] = d
first_or d (e ∷ es) = e

abbrev rest_of : {A : Type 0} → List A → List A
rest_of [] = []
rest_of (e ∷ es) = es

cons_parts : {K X : Type 0} (k l : K) (x y : X) (es fs : List (K × X)) → (k, x) ∷ es ≡ (l, y) ∷ fs → (k ≡ l) × (x ≡ y) × (es ≡ fs)
cons_parts k l x y es fs e = (ap (λ gs. (first_or (k, x) gs).0) e, ap (λ gs. (first_or (k, x) gs).1) e, ap rest_of e)

laid-resolved : (contents : PoolId → List ℕ) (entry base : Option Record)
    → option_map (resolved_item contents) (laid entry base) ≡ item_laid (option_map (resolved_entry contents) entry) (option_map (resolved_item contents) base)
laid-resolved contents None base = refl
laid-resolved contents (Some (File file)) base = refl
laid-resolved contents (Some (Dir dir)) base = refl
laid-resolved contents (Some (Link link)) base = refl
laid-resolved contents (Some Deleted) base = refl

module _ (given : PoolId → Type 0) (contents : PoolId → List ℕ) (one : IsOneToOne given contents) where
  difference-resolved : (older newer : Option Record) → IfFound (IsTold given contents) older → IfFound (IsTold given contents) newer
      → is_marked older ≡ false → is_marked newer ≡ false
      → option_map (resolved_entry contents) (difference older newer) ≡ item_difference (option_map (resolved_item contents) older) (option_map (resolved_item contents) newer)
  difference-resolved None None g h clean_a clean_b = refl
  difference-resolved None (Some newer) g h clean_a clean_b = refl
  difference-resolved (Some older) None g h clean_a clean_b = ap Some (unmarked_entry contents older clean_a)
  difference-resolved (Some older) (Some newer) g h clean_a clean_b =
      step (is_same_record older newer)
      ∙ ap (λ b. if b then None else Some (Some (resolved_item contents older))) (same_test given contents one older newer g h clean_a clean_b)
    where
      step : (b : Bool)
          → option_map (resolved_entry contents) (if b then None else Some older) ≡ (if b then None else Some (Some (resolved_item contents older)))
      step true = refl
      step false = ap Some (unmarked_entry contents older clean_a)

  -- ---- of whole rows

  -- reverse rows are resolved to the reverse of the two trees
  pub reverse-resolved : (older newer : Rows) → IsWhole older → IsWhole newer → AreTold given contents older → AreTold given contents newer
      → resolved_entries contents (reverse older newer) ≡ tree_reverse (resolved contents older) (resolved contents newer)
  reverse-resolved older newer a b g h =
      let order_older = IsInOrder-map_values (resolved_item contents) path_cmp older a.in_order in
      let order_newer = IsInOrder-map_values (resolved_item contents) path_cmp newer b.in_order in
      same_tree (resolved_entries contents (reverse older newer)) (tree_reverse (resolved contents older) (resolved contents newer))
      (IsInOrder-map_values (resolved_entry contents) path_cmp (reverse older newer) (IsInOrder-reverse older newer a.in_order b.in_order))
      (IsInOrder-merge path_cmp item_difference path_cmp_total (resolved contents older) (resolved contents newer) order_older order_newer)
      (λ path.
      find-map_values (resolved_entry contents) path_cmp path (reverse older newer)
      ∙ ap (option_map (resolved_entry contents)) (node_at-reverse older newer a.in_order b.in_order path)
      ∙ difference-resolved (node_at older path) (node_at newer path)
      (AllValues-find (IsTold given contents) path_cmp path older g) (AllValues-find (IsTold given contents) path_cmp path newer h)
      (unmarked older a.no_marks path) (unmarked newer b.no_marks path)
      ∙ (λ i. item_difference (sym (find-map_values (resolved_item contents) path_cmp path older) i) (sym (find-map_values (resolved_item contents) path_cmp path newer) i))
      ∙ sym (find-merge path_cmp item_difference path_cmp_total refl path (resolved contents older) (resolved contents newer) order_older order_newer))

  -- told rows that are resolved alike are one
  pub same_rows : (rows other : Rows) → AreTold given contents rows → AreTold given contents other
      → resolved_entries contents rows ≡ resolved_entries contents other → rows ≡ other
  same_rows [] [] g h e = refl
  same_rows [] (y ∷ ys) g h e = cc
  same_rows (x ∷ xs) [] g h e = cc
  same_rows (x ∷ xs) (y ∷ ys) g h e =
      let same = cons_parts x.0 y.0 (resolved_entry contents x.1) (resolved_entry contents y.1) (resolved_entries contents xs) (resolved_entries contents ys) e in
      let node = same_resolved given contents one x.1 y.1 g.0 h.0 same.1 in
      λ i. (same.0 i, node i) ∷ same_rows xs ys g.1 h.1 same.2 i

-- a view is resolved to the view
pub view-resolved : (contents : PoolId → List ℕ) (tree entries : Rows) → IsInOrder path_cmp tree → IsInOrder path_cmp entries
    → resolved contents (view tree entries) ≡ tree_view (resolved contents tree) (resolved_entries contents entries)
view-resolved contents tree entries a b =
    let order_tree = IsInOrder-map_values (resolved_item contents) path_cmp tree a in
    let order_entries = IsInOrder-map_values (resolved_entry contents) path_cmp entries b in
    same_tree (resolved contents (view tree entries)) (tree_view (resolved contents tree) (resolved_entries contents entries))
    (IsInOrder-map_values (resolved_item contents) path_cmp (view tree entries) (IsInOrder-view tree entries a b))
    (IsInOrder-merge path_cmp item_laid path_cmp_total (resolved_entries contents entries) (resolved contents tree) order_entries order_tree)
    (λ path.
    find-map_values (resolved_item contents) path_cmp path (view tree entries)
    ∙ ap (option_map (resolved_item contents)) (node_at-view tree entries a b path)
    ∙ laid-resolved contents (node_at entries path) (node_at tree path)
    ∙ (λ i. item_laid (sym (find-map_values (resolved_entry contents) path_cmp path entries) i) (sym (find-map_values (resolved_item contents) path_cmp path tree) i))
    ∙ sym (find-merge path_cmp item_laid path_cmp_total refl path (resolved_entries contents entries) (resolved contents tree) order_entries order_tree))

-- what is at a path of the tree
pub node_at-resolved : (contents : PoolId → List ℕ) (rows : Rows) (path : List ℕ)
    → node_at (resolved contents rows) path ≡ option_map (resolved_item contents) (node_at rows path)
node_at-resolved contents rows path = find-map_values (resolved_item contents) path_cmp path rows

-- puts and removals
pub with_node-resolved : (contents : PoolId → List ℕ) (rows : Rows) (path : List ℕ) (node : Record)
    → resolved contents (with_node rows path node) ≡ with_node (resolved contents rows) path (resolved_item contents node)
with_node-resolved contents rows path node = map_values-put (resolved_item contents) path_cmp path node rows

pub without-resolved : (contents : PoolId → List ℕ) (rows : Rows) (path : List ℕ)
    → resolved contents (without rows path) ≡ without (resolved contents rows) path
without-resolved contents rows path = map_values-where_key (resolved_item contents) path_cmp _ rows

resolved_item-kept : (given : PoolId → Type 0) (contents contents' : PoolId → List ℕ)
    → ((id : PoolId) → given id → contents id ≡ contents' id) → (node : Record) → IsTold given contents node
    → resolved_item contents node ≡ resolved_item contents' node
resolved_item-kept given contents contents' same (File file) g =
    ap (λ bytes. ItemFile (record { attr = file.attr; group = file.group; bytes = bytes })) (bytes_kept file.size file.content g)
  where
    bytes_kept : (size : ℕ) (content : Option PoolId) → IsToldContent given contents size content
        → bytes_of contents content ≡ bytes_of contents' content
    bytes_kept size None h = refl
    bytes_kept size (Some id) h = same id h.0
resolved_item-kept given contents contents' same (Dir dir) g = refl
resolved_item-kept given contents contents' same (Link link) g = refl
resolved_item-kept given contents contents' same Deleted g = refl

-- told rows are resolved alike if the contents of given ids are the same
pub resolved-kept : (given : PoolId → Type 0) (contents contents' : PoolId → List ℕ)
    → ((id : PoolId) → given id → contents id ≡ contents' id) → (rows : Rows) → AreTold given contents rows
    → resolved contents rows ≡ resolved contents' rows
resolved-kept given contents contents' same rows g =
    map_values-alike (IsTold given contents) (resolved_item contents) (resolved_item contents') (resolved_item-kept given contents contents' same) rows g

told_kept : (given given' : PoolId → Type 0) (contents contents' : PoolId → List ℕ)
    → ((id : PoolId) → given id → given' id × (contents id ≡ contents' id)) → (node : Record) → IsTold given contents node
    → IsTold given' contents' node
told_kept given given' contents contents' same (File file) g = content_kept file.size file.content g
  where
    content_kept : (size : ℕ) (content : Option PoolId) → IsToldContent given contents size content
        → IsToldContent given' contents' size content
    content_kept size None h = h
    content_kept size (Some id) h = let s = same id h.0 in (s.0, subst (λ c. size ≡ length c) s.1 h.1)
told_kept given given' contents contents' same (Dir dir) g = g
told_kept given given' contents contents' same (Link link) g = g
told_kept given given' contents contents' same Deleted g = g

pub AreTold-kept : (given given' : PoolId → Type 0) (contents contents' : PoolId → List ℕ)
    → ((id : PoolId) → given id → given' id × (contents id ≡ contents' id)) → (rows : Rows) → AreTold given contents rows
    → AreTold given' contents' rows
AreTold-kept given given' contents contents' same rows g =
    AllValues-each (IsTold given contents) (IsTold given' contents') (told_kept given given' contents contents' same) rows g
