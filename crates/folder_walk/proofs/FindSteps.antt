-- What a search among a directory's rows answers.
use Rattle.std.specs.Prelude.{◌≡◌, ℕ, ◌<◌, List, length, get_or, Option, Some, None}
use Rattle.std.specs.List.Sorted.{IsBinarySearchResult}
use Rattle.std.specs.declared.result.Result.TheVariants.{Ok, Err}
use Rattle.std.specs.declared.cmp.Ordering.{Ordering}
use Rattle.ordered_lists.specs.Order.{IsInOrder}
use Rattle.std.specs.Option.{option_map}
use Rattle.std.proofs.Common.{refl, sym, ap, ◌∙◌, subst}
use Rattle.attr_records.specs.Items.{Tree, is_dir}
use Rattle.attr_records.specs.Paths.{path_cmp}
use Rattle.attr_records.specs.Trees.{node_at, IsTree}
use Rattle.folder_trait.specs.Folders.{is_child, found_of}
use Rattle.folder_laws.specs.Walks.{children}
use Rattle.folder_laws.specs.FindLaws.{order_filter, search_found, search_nowhere}
use Rattle.folder_walk.specs.declared.rows.Row.{Row}
use Rattle.folder_walk.specs.Rows.{row_found, rows_found}

module _ (tree : Tree) (directory : Option (List ℕ)) (is_tree : IsTree is_dir tree) (q : List ℕ) (rows : List Row) (are : rows ≡ rows_found tree directory) where
  abbrev against : Row → Ordering
  against row = path_cmp row.path q

  in_order : IsInOrder path_cmp (children tree directory)
  in_order = order_filter (λ row. is_child directory row.0) tree is_tree.in_order

  pub row_here : (i : ℕ) (row : Row) → i < length rows → IsBinarySearchResult against rows (Ok i) → row ≡ get_or rows i row
      → Some row.node ≡ option_map found_of (node_at (children tree directory) q)
  row_here i row within at is =
      let w = search_found row_found (λ (r : Row). r.path) (λ e. refl) q (children tree directory) i row in_order
      (subst (λ (xs : List Row). i < length xs) are within) (subst (λ (xs : List Row). IsBinarySearchResult against xs (Ok i)) are at)
      (is ∙ ap (λ xs. get_or xs i row) are) in
      ap (λ (r : Row). Some r.node) w.2 ∙ sym (ap (option_map found_of) w.3)

  pub row_nowhere : (i : ℕ) → IsBinarySearchResult against rows (Err i) → None ≡ option_map found_of (node_at (children tree directory) q)
  row_nowhere i point =
      sym (ap (option_map found_of) (search_nowhere row_found (λ (r : Row). r.path) (λ e. refl) q (children tree directory) i in_order
      (subst (λ (xs : List Row). IsBinarySearchResult against xs (Err i)) are point)))
