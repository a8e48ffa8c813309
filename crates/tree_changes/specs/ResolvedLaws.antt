-- What is removed and put between rows is what is removed and put between their trees.
use Rattle.std.specs.Prelude.{◌≡◌, ℕ, Bool, true, false, not, List, Option, Some, None, is_some, if◌then◌else◌}
use Rattle.std.specs.Option.{option_map}
use Rattle.std.specs.FinMap.Entries.{where_key}
use Rattle.std.proofs.Common.{refl, sym, ap, ◌∙◌}
use Rattle.disk_trait.specs.declared.ids.PoolId.{PoolId}
use Rattle.attr_records.specs.declared.nodes.Item.{Item}
use Rattle.attr_records.specs.declared.nodes.Item.TheVariants.{File as ItemFile, Dir as ItemDir, Link as ItemLink}
use Rattle.attr_records.specs.Items.{is_dir as is_dir_item}
use Rattle.attr_records.specs.Paths.{path_cmp, parent}
use Rattle.attr_records.specs.Trees.{node_at}
use Rattle.attr_records.specs.TreeLaws.{same_tree}
use Rattle.attr_tables.specs.declared.records.Record.{Record}
use Rattle.attr_tables.specs.declared.records.Record.TheVariants.{File, Dir, Link, Deleted}
use Rattle.attr_tables.specs.Records.{is_dir, is_same_record}
use Rattle.merge_view.specs.Views.{Rows, IsWhole, is_mark, is_marked}
use Rattle.merge_view.specs.ViewLaws.{unmarked}
use Rattle.stored_trees.specs.Values.{IfFound}
use Rattle.stored_trees.specs.ValueLaws.{IsInOrder-map_values, map_values-where_key, AllValues-find}
use Rattle.stored_trees.specs.Resolved.{resolved_item, resolved, IsTold, AreTold, IsOneToOne}
use Rattle.stored_trees.specs.ResolvedLaws.{node_at-resolved}
use Rattle.stored_trees.specs.TreeViews.{is_same_item as is_same_stored}
use Rattle.stored_trees.specs.NodeLaws.{same_test}
use Rattle.change_laws.specs.Changes.{alike, lost, changed, lost_rows, changed_rows, lies_in, topmost}
use Rattle.change_laws.specs.BroughtLaws.{node_at-lost, node_at-changed, IsInOrder-lost, IsInOrder-changed}
use Rattle.change_laws.specs.SameItems.{is_same_item}

-- the two tests of nodes are one
same_tests : (a b : Item) → is_same_stored a b ≡ is_same_item a b
same_tests (ItemFile a) (ItemFile b) = refl
same_tests (ItemDir a) (ItemDir b) = refl
same_tests (ItemLink a) (ItemLink b) = refl
same_tests (ItemFile a) (ItemDir b) = refl
same_tests (ItemFile a) (ItemLink b) = refl
same_tests (ItemDir a) (ItemFile b) = refl
same_tests (ItemDir a) (ItemLink b) = refl
same_tests (ItemLink a) (ItemFile b) = refl
same_tests (ItemLink a) (ItemDir b) = refl

module _ (contents : PoolId → List ℕ) where
  dir-resolved : (a : Record) → is_mark a ≡ false → is_dir_item (resolved_item contents a) ≡ is_dir a
  dir-resolved (File file) clean = refl
  dir-resolved (Dir dir) clean = refl
  dir-resolved (Link link) clean = refl
  dir-resolved Deleted clean = cc

  -- ---- removals

  lost-resolved : (newer older : Option Record) → is_marked newer ≡ false → is_marked older ≡ false
      → option_map (resolved_item contents) (lost is_dir newer older)
      ≡ lost is_dir_item (option_map (resolved_item contents) newer) (option_map (resolved_item contents) older)
  lost-resolved None None a b = refl
  lost-resolved (Some newer) None a b = refl
  lost-resolved None (Some older) a b = refl
  lost-resolved (Some newer) (Some older) a b =
      step (alike (is_dir newer) (is_dir older))
      ∙ (λ i. if alike (sym (dir-resolved newer a) i) (sym (dir-resolved older b) i) then None else Some (resolved_item contents older))
    where
      step : (t : Bool) → option_map (resolved_item contents) (if t then None else Some older) ≡ (if t then None else Some (resolved_item contents older))
      step true = refl
      step false = refl

  pub lost_rows-resolved : (newer older : Rows) → IsWhole newer → IsWhole older
      → resolved contents (lost_rows is_dir newer older) ≡ lost_rows is_dir_item (resolved contents newer) (resolved contents older)
  lost_rows-resolved newer older new old =
      let order_newer = IsInOrder-map_values (resolved_item contents) path_cmp newer new.in_order in
      let order_older = IsInOrder-map_values (resolved_item contents) path_cmp older old.in_order in
      same_tree (resolved contents (lost_rows is_dir newer older)) (lost_rows is_dir_item (resolved contents newer) (resolved contents older))
      (IsInOrder-map_values (resolved_item contents) path_cmp (lost_rows is_dir newer older) (IsInOrder-lost is_dir newer older new.in_order old.in_order))
      (IsInOrder-lost is_dir_item (resolved contents newer) (resolved contents older) order_newer order_older)
      (λ path.
      node_at-resolved contents (lost_rows is_dir newer older) path
      ∙ ap (option_map (resolved_item contents)) (node_at-lost is_dir newer older new.in_order old.in_order path)
      ∙ lost-resolved (node_at newer path) (node_at older path) (unmarked newer new.no_marks path) (unmarked older old.no_marks path)
      ∙ (λ i. lost is_dir_item (sym (node_at-resolved contents newer path) i) (sym (node_at-resolved contents older path) i))
      ∙ sym (node_at-lost is_dir_item (resolved contents newer) (resolved contents older) order_newer order_older path))

  lies_in-resolved : (rows : Rows) (directory : Option (List ℕ)) → lies_in (resolved contents rows) directory ≡ lies_in rows directory
  lies_in-resolved rows None = refl
  lies_in-resolved rows (Some directory) = ap is_some (node_at-resolved contents rows directory) ∙ step (node_at rows directory)
    where
      step : (found : Option Record) → is_some (option_map (resolved_item contents) found) ≡ is_some found
      step None = refl
      step (Some node) = refl

  pub topmost-resolved : (rows : Rows) → resolved contents (topmost rows) ≡ topmost (resolved contents rows)
  topmost-resolved rows =
      map_values-where_key (resolved_item contents) path_cmp (λ path. not (lies_in rows (parent path))) rows
      ∙ (λ i. where_key path_cmp (λ path. not (sym (lies_in-resolved rows (parent path)) i)) (resolved contents rows))

  pub removals-resolved : (newer older : Rows) → IsWhole newer → IsWhole older
      → resolved contents (topmost (lost_rows is_dir newer older)) ≡ topmost (lost_rows is_dir_item (resolved contents newer) (resolved contents older))
  removals-resolved newer older new old = topmost-resolved (lost_rows is_dir newer older) ∙ ap topmost (lost_rows-resolved newer older new old)

-- ---- puts

module _ (given : PoolId → Type 0) (contents : PoolId → List ℕ) (one : IsOneToOne given contents) where
  changed-resolved : (newer older : Option Record) → IfFound (IsTold given contents) newer → IfFound (IsTold given contents) older
      → is_marked newer ≡ false → is_marked older ≡ false
      → option_map (resolved_item contents) (changed is_same_record newer older)
      ≡ changed is_same_item (option_map (resolved_item contents) newer) (option_map (resolved_item contents) older)
  changed-resolved None older g h a b = refl
  changed-resolved (Some newer) None g h a b = refl
  changed-resolved (Some newer) (Some older) g h a b =
      step (is_same_record newer older)
      ∙ ap (λ t. if t then None else Some (resolved_item contents newer))
      (same_test given contents one newer older g h a b ∙ same_tests (resolved_item contents newer) (resolved_item contents older))
    where
      step : (t : Bool) → option_map (resolved_item contents) (if t then None else Some newer) ≡ (if t then None else Some (resolved_item contents newer))
      step true = refl
      step false = refl

  pub changes-resolved : (newer older : Rows) → IsWhole newer → IsWhole older → AreTold given contents newer → AreTold given contents older
      → resolved contents (changed_rows is_same_record newer older) ≡ changed_rows is_same_item (resolved contents newer) (resolved contents older)
  changes-resolved newer older new old g h =
      let order_newer = IsInOrder-map_values (resolved_item contents) path_cmp newer new.in_order in
      let order_older = IsInOrder-map_values (resolved_item contents) path_cmp older old.in_order in
      same_tree (resolved contents (changed_rows is_same_record newer older)) (changed_rows is_same_item (resolved contents newer) (resolved contents older))
      (IsInOrder-map_values (resolved_item contents) path_cmp (changed_rows is_same_record newer older) (IsInOrder-changed is_same_record newer older new.in_order old.in_order))
      (IsInOrder-changed is_same_item (resolved contents newer) (resolved contents older) order_newer order_older)
      (λ path.
      node_at-resolved contents (changed_rows is_same_record newer older) path
      ∙ ap (option_map (resolved_item contents)) (node_at-changed is_same_record newer older new.in_order old.in_order path)
      ∙ changed-resolved (node_at newer path) (node_at older path)
      (AllValues-find (IsTold given contents) path_cmp path newer g) (AllValues-find (IsTold given contents) path_cmp path older h)
      (unmarked newer new.no_marks path) (unmarked older old.no_marks path)
      ∙ (λ i. changed is_same_item (sym (node_at-resolved contents newer path) i) (sym (node_at-resolved contents older path) i))
      ∙ sym (node_at-changed is_same_item (resolved contents newer) (resolved contents older) order_newer order_older path))
