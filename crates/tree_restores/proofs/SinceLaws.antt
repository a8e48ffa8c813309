-- What is told path by path is what leads from the base to the tree.
use Rattle.std.specs.Prelude.{◌≡◌, ℕ, ◌+◌, ◌≤◌, Bool, true, false, not, cond, ◌&&◌, List, [], ◌∷◌, ◌++◌, length, Option, None, Some, is_some, if◌then◌else◌}
use Rattle.std.specs.List.{flat_map}
use Rattle.std.specs.declared.cmp.Ordering.TheVariants.{Equal}
use Rattle.std.specs.FinMap.Entries.{where_key, find-where_key}
use Rattle.std.proofs.Common.{refl, sym, ap, ◌∙◌, append_assoc, arith}
use Rattle.std.proofs.lemmas.List.{append-nil}
use Rattle.ordered_lists.specs.Order.{IsInOrder}
use Rattle.ordered_lists.specs.OrderLaws.{IsInOrder-where_key}
use Rattle.attr_records.specs.declared.nodes.Item.{Item}
use Rattle.attr_records.specs.Items.{Tree, is_dir}
use Rattle.attr_records.specs.Paths.{path_cmp, parent}
use Rattle.attr_records.specs.PathLaws.{path_cmp_exact}
use Rattle.attr_records.specs.Trees.{node_at}
use Rattle.attr_records.specs.TreeLaws.{same_tree}
use Rattle.change_laws.specs.Changes.{alike, lost, changed, lost_rows, changed_rows, lies_in}
use Rattle.change_laws.specs.SameItems.{is_same_item}
use Rattle.change_laws.specs.BroughtLaws.{node_at-lost, node_at-changed, IsInOrder-lost, IsInOrder-changed}
use Rattle.tree_frames.specs.declared.nodes.Frame.{Frame}
use Rattle.tree_frames.specs.declared.nodes.Frame.TheVariants.{End}
use Rattle.tree_frames.specs.Frames.{frames, removals_of, entries_of, removal_frames}
use Rattle.tree_restores.specs.Rows.{row_frames}
use Rattle.tree_restores.specs.Since.{is_lost_at, is_lost_above, is_changed_at, lost_tops, told_rows}
use Rattle.tree_restores.proofs.FrameLaws.{frames_are}

-- a test gives one answer to one path
at_one_path : (p : List ℕ → Bool) (path other : List ℕ) → path_cmp path other ≡ Equal → p other ≡ p path
at_one_path p path other e = ap p (sym (path_cmp_exact path other e))

-- what passes two tests, one after the other
where_both : (p q : List ℕ → Bool) (rows : Tree) → where_key path_cmp q (where_key path_cmp p rows) ≡ where_key path_cmp (λ path. p path && q path) rows
where_both p q [] = refl
where_both p q (row ∷ rows) = step (p row.0) (q row.0) refl (where_both p q rows)
  where
    step : (a b : Bool) → q row.0 ≡ b → where_key path_cmp q (where_key path_cmp p rows) ≡ where_key path_cmp (λ path. p path && q path) rows
        → where_key path_cmp q (cond a (row ∷ where_key path_cmp p rows) (where_key path_cmp p rows))
        ≡ cond (a && b) (row ∷ where_key path_cmp (λ path. p path && q path) rows) (where_key path_cmp (λ path. p path && q path) rows)
    step true true is rest = ap (λ t. cond t (row ∷ where_key path_cmp q (where_key path_cmp p rows)) (where_key path_cmp q (where_key path_cmp p rows))) is ∙ ap (λ rs. row ∷ rs) rest
    step true false is rest = ap (λ t. cond t (row ∷ where_key path_cmp q (where_key path_cmp p rows)) (where_key path_cmp q (where_key path_cmp p rows))) is ∙ rest
    step false b is rest = rest

lost_picks : (newer older : Option Item) → lost is_dir newer older ≡ cond (is_some (lost is_dir newer older)) older None
lost_picks newer None = refl
lost_picks None (Some older) = refl
lost_picks (Some newer) (Some older) = step (alike (is_dir newer) (is_dir older))
  where
    step : (t : Bool) → (if t then None else Some older) ≡ cond (is_some (if t then None else Some older)) (Some older) None
    step true = refl
    step false = refl

changed_picks : (newer older : Option Item) → changed is_same_item newer older ≡ cond (is_some (changed is_same_item newer older)) newer None
changed_picks None older = refl
changed_picks (Some newer) None = refl
changed_picks (Some newer) (Some older) = step (is_same_item newer older)
  where
    step : (t : Bool) → (if t then None else Some newer) ≡ cond (is_some (if t then None else Some newer)) (Some newer) None
    step true = refl
    step false = refl

module _ (base tree : Tree) (older : IsInOrder path_cmp base) (newer : IsInOrder path_cmp tree) where
  lost_are : lost_rows is_dir tree base ≡ where_key path_cmp (is_lost_at base tree) base
  lost_are =
      same_tree (lost_rows is_dir tree base) (where_key path_cmp (is_lost_at base tree) base)
      (IsInOrder-lost is_dir tree base newer older) (IsInOrder-where_key path_cmp (is_lost_at base tree) base older)
      (λ path.
      node_at-lost is_dir tree base newer older path ∙ lost_picks (node_at tree path) (node_at base path)
      ∙ sym (find-where_key path_cmp (is_lost_at base tree) path (at_one_path (is_lost_at base tree) path) base))

  above_is : (directory : Option (List ℕ)) → lies_in (lost_rows is_dir tree base) directory ≡ is_lost_above base tree directory
  above_is None = refl
  above_is (Some directory) = ap is_some (node_at-lost is_dir tree base newer older directory)

  pub tops_are : lost_tops base tree ≡ removals_of (Some base) tree
  tops_are =
      sym (where_both (is_lost_at base tree) (λ path. not (is_lost_above base tree (parent path))) base)
      ∙ ap (where_key path_cmp (λ path. not (is_lost_above base tree (parent path)))) (sym lost_are)
      ∙ (λ i. where_key path_cmp (λ path. not (sym (above_is (parent path)) i)) (lost_rows is_dir tree base))

  pub told_are : told_rows base tree ≡ entries_of (Some base) tree
  told_are =
      same_tree (told_rows base tree) (changed_rows is_same_item tree base)
      (IsInOrder-where_key path_cmp (is_changed_at base tree) tree newer) (IsInOrder-changed is_same_item tree base newer older)
      (λ path.
      find-where_key path_cmp (is_changed_at base tree) path (at_one_path (is_changed_at base tree) path) tree
      ∙ sym (node_at-changed is_same_item tree base newer older path ∙ changed_picks (node_at tree path) (node_at base path)))

-- no more rows pass a test than there are
pub few_pass : (p : List ℕ → Bool) (rows : Tree) → length (where_key path_cmp p rows) ≤ length rows
few_pass p [] = omega arith
few_pass p (row ∷ rows) = step (p row.0) (few_pass p rows)
  where
    step : (t : Bool) → length (where_key path_cmp p rows) ≤ length rows
        → length (cond t (row ∷ where_key path_cmp p rows) (where_key path_cmp p rows)) ≤ length (row ∷ rows)
    step true rest = omega arith
    step false rest = omega arith

-- all paths are told
pub lost_told : (p : List ℕ → Bool) (items all : List Frame) (rest : Tree) → rest ≡ []
    → items ++ removal_frames (where_key path_cmp p rest) ≡ all → items ≡ all
lost_told p items all rest none is = sym (append-nil items) ∙ ap (λ rs. items ++ removal_frames (where_key path_cmp p rs)) (sym none) ∙ is

-- the end behind all rows
pub changes_told : (p : List ℕ → Bool) (items old new : List Frame) (rest rows entries : Tree) (count : ℕ) → rest ≡ []
    → items ++ flat_map row_frames (where_key path_cmp p rest) ≡ old ++ flat_map row_frames rows
    → count + length (where_key path_cmp p rest) ≡ length rows → rows ≡ entries
    → new ≡ items ++ End count ∷ [] → new ≡ old ++ frames entries
changes_told p items old new rest rows entries count none is number same new_is =
    let whole : items ≡ old ++ flat_map row_frames rows =
    sym (append-nil items) ∙ ap (λ rs. items ++ flat_map row_frames (where_key path_cmp p rs)) (sym none) ∙ is in
    let number_is : count + 0 ≡ length rows = ap (λ rs. count + length (where_key path_cmp p rs)) (sym none) ∙ number in
    let number_is : count ≡ length rows = omega (arith, number_is) in
    new_is ∙ ap (λ n. items ++ End n ∷ []) number_is ∙ ap (λ fs. fs ++ End (length rows) ∷ []) whole
    ∙ append_assoc old (flat_map row_frames rows) (End (length rows) ∷ []) ∙ ap (λ fs. old ++ fs) (sym (frames_are rows)) ∙ ap (λ rs. old ++ frames rs) same
