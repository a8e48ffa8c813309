-- Laws of entries over a tree.
--     node_at-view and others      what views, reverse entries, stacked and trimmed entries have at a path
--     view-reverse, view-stacked, trimmed-view      how they go together
use Rattle.std.specs.Prelude.{◌≡◌, ℕ, Bool, true, false, cond, List, [], ◌∷◌, Option, Some, None, if◌then◌else◌}
use Rattle.std.specs.declared.cmp.Ordering.{Ordering}
use Rattle.std.specs.declared.cmp.Ordering.TheVariants.{Less, Equal, Greater}
use Rattle.std.specs.Ordering.{eq_by_cmp, is_eq}
use Rattle.std.specs.Cmp.{tied_itself}
use Rattle.std.proofs.Common.{refl, sym, ap, ◌∙◌}
use Rattle.attr_records.specs.Paths.{path_cmp}
use Rattle.attr_records.specs.PathLaws.{path_cmp_total}
use Rattle.ordered_lists.specs.Order.{IsInOrder}
use Rattle.attr_records.specs.Trees.{node_at}
use Rattle.attr_records.specs.TreeLaws.{same_tree}
use Rattle.attr_tables.specs.Records.{is_same_record}
use Rattle.attr_tables.specs.RecordLaws.{same_record, record_itself}
use Rattle.ordered_lists.specs.OrderLaws.{find_below, below_alike}
use Rattle.attr_tables.specs.declared.records.Record.{Record}
use Rattle.attr_tables.specs.declared.records.Record.TheVariants.{File, Dir, Link, Deleted}
use Rattle.ordered_lists.specs.Merge.{merge}
use Rattle.ordered_lists.specs.MergeLaws.{find-merge, IsInOrder-merge}
use Rattle.merge_view.specs.Views.{Rows, is_mark, is_marked, HasNoMarks, IsWhole, laid, difference, upper, needed, view, reverse, stacked, trimmed}

pub IsInOrder-view : (tree entries : Rows) → IsInOrder path_cmp tree → IsInOrder path_cmp entries → IsInOrder path_cmp (view tree entries)
IsInOrder-view tree entries g h = IsInOrder-merge path_cmp laid path_cmp_total entries tree h g

pub IsInOrder-reverse : (older newer : Rows) → IsInOrder path_cmp older → IsInOrder path_cmp newer
    → IsInOrder path_cmp (reverse older newer)
IsInOrder-reverse older newer g h = IsInOrder-merge path_cmp difference path_cmp_total older newer g h

pub IsInOrder-stacked : (older newer : Rows) → IsInOrder path_cmp older → IsInOrder path_cmp newer
    → IsInOrder path_cmp (stacked older newer)
IsInOrder-stacked older newer g h = IsInOrder-merge path_cmp upper path_cmp_total older newer g h

pub IsInOrder-trimmed : (tree entries : Rows) → IsInOrder path_cmp tree → IsInOrder path_cmp entries
    → IsInOrder path_cmp (trimmed tree entries)
IsInOrder-trimmed tree entries g h = IsInOrder-merge path_cmp needed path_cmp_total entries tree h g

pub node_at-view : (tree entries : Rows) → IsInOrder path_cmp tree → IsInOrder path_cmp entries → (path : List ℕ)
    → node_at (view tree entries) path ≡ laid (node_at entries path) (node_at tree path)
node_at-view tree entries g h path = find-merge path_cmp laid path_cmp_total refl path entries tree h g

pub node_at-reverse : (older newer : Rows) → IsInOrder path_cmp older → IsInOrder path_cmp newer → (path : List ℕ)
    → node_at (reverse older newer) path ≡ difference (node_at older path) (node_at newer path)
node_at-reverse older newer g h path = find-merge path_cmp difference path_cmp_total refl path older newer g h

pub node_at-stacked : (older newer : Rows) → IsInOrder path_cmp older → IsInOrder path_cmp newer → (path : List ℕ)
    → node_at (stacked older newer) path ≡ upper (node_at older path) (node_at newer path)
node_at-stacked older newer g h path = find-merge path_cmp upper path_cmp_total refl path older newer g h

pub node_at-trimmed : (tree entries : Rows) → IsInOrder path_cmp tree → IsInOrder path_cmp entries → (path : List ℕ)
    → node_at (trimmed tree entries) path ≡ needed (node_at entries path) (node_at tree path)
node_at-trimmed tree entries g h path = find-merge path_cmp needed path_cmp_total refl path entries tree h g

-- ---- deletion marks

-- without marks no path has one
pub unmarked : (rows : Rows) → HasNoMarks rows → (path : List ℕ) → is_marked (node_at rows path) ≡ false
unmarked [] h path = refl
unmarked (row ∷ rows) h path = step (eq_by_cmp path_cmp path row.0) (unmarked rows h.1 path)
  where
    step : (b : Bool) → is_marked (node_at rows path) ≡ false → is_marked (cond b (Some row.1) (node_at rows path)) ≡ false
    step true rest = h.0
    step false rest = rest

-- where no path has a mark, there are none
pub HasNoMarks-from_each : (rows : Rows) → IsInOrder path_cmp rows → ((path : List ℕ) → is_marked (node_at rows path) ≡ false)
    → HasNoMarks rows
HasNoMarks-from_each [] h each = tt
HasNoMarks-from_each (row ∷ rows) h each =
    (ap (λ r. is_marked (cond (is_eq r) (Some row.1) (node_at rows row.0))) (sym (tied_itself path_cmp_total row.0)) ∙ each row.0, HasNoMarks-from_each rows h.1 others)
  where
    others : (path : List ℕ) → is_marked (node_at rows path) ≡ false
    others path = step (path_cmp path row.0) refl (each path)
      where
        step : (r : Ordering) → path_cmp path row.0 ≡ r → is_marked (cond (is_eq r) (Some row.1) (node_at rows path)) ≡ false
            → is_marked (node_at rows path) ≡ false
        step Less is rest = rest
        step Equal is rest =
            ap is_marked (find_below path_cmp path_cmp_total path rows (below_alike path_cmp path_cmp_total path row.0 rows is h.0))
        step Greater is rest = rest

pub unmarked-laid : (entry base : Option Record) → is_marked base ≡ false → is_marked (laid entry base) ≡ false
unmarked-laid None base clean = clean
unmarked-laid (Some Deleted) base clean = refl
unmarked-laid (Some (File file)) base clean = refl
unmarked-laid (Some (Dir dir)) base clean = refl
unmarked-laid (Some (Link link)) base clean = refl

-- a view of a whole tree is a whole tree
pub IsWhole-view : (tree entries : Rows) → IsWhole tree → IsInOrder path_cmp entries → IsWhole (view tree entries)
IsWhole-view tree entries whole h =
    let order = IsInOrder-view tree entries whole.in_order h in
    record {
      in_order = order;
      no_marks = HasNoMarks-from_each (view tree entries) order (λ path.
          ap is_marked (node_at-view tree entries whole.in_order h path) ∙ unmarked-laid (node_at entries path) (node_at tree path) (unmarked tree whole.no_marks path));
    }

-- ---- how they go together

-- the difference laid over the newer is the older
undone : (older newer : Option Record) → is_marked older ≡ false → laid (difference older newer) newer ≡ older
undone None None clean = refl
undone None (Some newer) clean = refl
undone (Some Deleted) newer clean = cc
undone (Some (File file)) None clean = refl
undone (Some (Dir dir)) None clean = refl
undone (Some (Link link)) None clean = refl
undone (Some (File file)) (Some newer) clean = step (is_same_record (File file) newer) refl
  where
    step : (b : Bool) → is_same_record (File file) newer ≡ b → laid (if b then None else Some (File file)) (Some newer) ≡ Some (File file)
    step true e = ap Some (sym (same_record (File file) newer e))
    step false e = refl
undone (Some (Dir dir)) (Some newer) clean = step (is_same_record (Dir dir) newer) refl
  where
    step : (b : Bool) → is_same_record (Dir dir) newer ≡ b → laid (if b then None else Some (Dir dir)) (Some newer) ≡ Some (Dir dir)
    step true e = ap Some (sym (same_record (Dir dir) newer e))
    step false e = refl
undone (Some (Link link)) (Some newer) clean = step (is_same_record (Link link) newer) refl
  where
    step : (b : Bool) → is_same_record (Link link) newer ≡ b → laid (if b then None else Some (Link link)) (Some newer) ≡ Some (Link link)
    step true e = ap Some (sym (same_record (Link link) newer e))
    step false e = refl

-- the newer tree, viewed through the reverse entries of the older one, is the older one
pub view-reverse : (older newer : Rows) → IsWhole older → IsInOrder path_cmp newer → view newer (reverse older newer) ≡ older
view-reverse older newer whole h =
    let order = IsInOrder-reverse older newer whole.in_order h in
    same_tree (view newer (reverse older newer)) older (IsInOrder-view newer (reverse older newer) h order) whole.in_order (λ path.
    node_at-view newer (reverse older newer) h order path
    ∙ ap (λ entry. laid entry (node_at newer path)) (node_at-reverse older newer whole.in_order h path)
    ∙ undone (node_at older path) (node_at newer path) (unmarked older whole.no_marks path))

laid-upper : (older newer base : Option Record) → laid (upper older newer) base ≡ laid older (laid newer base)
laid-upper None newer base = refl
laid-upper (Some Deleted) newer base = refl
laid-upper (Some (File file)) newer base = refl
laid-upper (Some (Dir dir)) newer base = refl
laid-upper (Some (Link link)) newer base = refl

-- entries that are laid over each other are viewed one after the other, the newer first
pub view-stacked : (tree older newer : Rows) → IsInOrder path_cmp tree → IsInOrder path_cmp older → IsInOrder path_cmp newer
    → view tree (stacked older newer) ≡ view (view tree newer) older
view-stacked tree older newer g a b =
    let stack = IsInOrder-stacked older newer a b in
    let below = IsInOrder-view tree newer g b in
    same_tree (view tree (stacked older newer)) (view (view tree newer) older) (IsInOrder-view tree (stacked older newer) g stack) (IsInOrder-view (view tree newer) older below a) (λ path.
    node_at-view tree (stacked older newer) g stack path
    ∙ ap (λ entry. laid entry (node_at tree path)) (node_at-stacked older newer a b path)
    ∙ laid-upper (node_at older path) (node_at newer path) (node_at tree path)
    ∙ ap (laid (node_at older path)) (sym (node_at-view tree newer g b path))
    ∙ sym (node_at-view (view tree newer) older below a path))

needed-difference : (entry base : Option Record) → needed entry base ≡ difference (laid entry base) base
needed-difference None None = refl
needed-difference None (Some base) = ap (λ b. if b then None else Some base) (sym (record_itself base))
needed-difference (Some Deleted) None = refl
needed-difference (Some Deleted) (Some base) = refl
needed-difference (Some (File file)) base = refl
needed-difference (Some (Dir dir)) base = refl
needed-difference (Some (Link link)) base = refl

-- the entries that change a tree are the reverse entries of the view through all of them
pub trimmed-view : (tree entries : Rows) → IsInOrder path_cmp tree → IsInOrder path_cmp entries
    → trimmed tree entries ≡ reverse (view tree entries) tree
trimmed-view tree entries g h =
    let seen = IsInOrder-view tree entries g h in
    same_tree (trimmed tree entries) (reverse (view tree entries) tree) (IsInOrder-trimmed tree entries g h) (IsInOrder-reverse (view tree entries) tree seen g) (λ path.
    node_at-trimmed tree entries g h path
    ∙ needed-difference (node_at entries path) (node_at tree path)
    ∙ ap (λ node. difference node (node_at tree path)) (sym (node_at-view tree entries g h path))
    ∙ sym (node_at-reverse (view tree entries) tree seen g path))
