-- Rows put one after the other on what else has only their paths are their tree.
use Rattle.std.specs.Prelude.{◌≡◌, ℕ, Bool, true, false, not, ◌||◌, cond, List, [], ◌∷◌, Option, Some, None}
use Rattle.std.specs.List.{list_any}
use Rattle.std.specs.declared.cmp.Ordering.{Ordering}
use Rattle.std.specs.declared.cmp.Ordering.TheVariants.{Less, Equal, Greater}
use Rattle.std.specs.Ordering.{is_eq}
use Rattle.std.proofs.Common.{refl, ap, ◌∙◌}
use Rattle.attr_records.specs.declared.nodes.Item.{Item}
use Rattle.attr_records.specs.Items.{Tree}
use Rattle.attr_records.specs.Paths.{path_cmp, is_within}
use Rattle.attr_records.specs.PathLaws.{path_cmp_total}
use Rattle.attr_records.specs.Trees.{node_at, with_node, without}
use Rattle.attr_records.specs.TreeLaws.{node_at-with_node, node_at-without, IsInOrder-with_node, IsInOrder-without, same_tree}
use Rattle.ordered_lists.specs.Order.{IsInOrder}
use Rattle.ordered_lists.specs.OrderLaws.{find_below, below_alike}
use Rattle.folder_laws.specs.Replays.{without_all, with_all}

-- the first, or the second where there is none
abbrev pub or_else : Option Item → Option Item → Option Item
or_else None other = other
or_else (Some x) other = Some x

pub node_at-with_all : (tree rows : Tree) → IsInOrder path_cmp rows → (q : List ℕ)
    → node_at (with_all tree rows) q ≡ or_else (node_at rows q) (node_at tree q)
node_at-with_all tree [] order q = refl
node_at-with_all tree (row ∷ rows) order q =
    node_at-with_all (with_node tree row.0 row.1) rows order.1 q
    ∙ ap (or_else (node_at rows q)) (node_at-with_node tree row.0 row.1 q)
    ∙ step (path_cmp q row.0) refl
  where
    step : (r : Ordering) → path_cmp q row.0 ≡ r
        → or_else (node_at rows q) (cond (is_eq r) (Some row.1) (node_at tree q)) ≡ or_else (cond (is_eq r) (Some row.1) (node_at rows q)) (node_at tree q)
    step Less e = refl
    step Greater e = refl
    step Equal e =
        ap (λ o. or_else o (Some row.1)) (find_below path_cmp path_cmp_total q rows (below_alike path_cmp path_cmp_total q row.0 rows e order.0))

pub IsInOrder-with_all : (tree rows : Tree) → IsInOrder path_cmp tree → IsInOrder path_cmp (with_all tree rows)
IsInOrder-with_all tree [] order = order
IsInOrder-with_all tree (row ∷ rows) order = IsInOrder-with_all (with_node tree row.0 row.1) rows (IsInOrder-with_node tree row.0 row.1 order)

-- rows put on a tree that has no other paths are the tree of these rows
pub replayed : (tree rows : Tree) → IsInOrder path_cmp tree → IsInOrder path_cmp rows
    → ((q : List ℕ) → node_at rows q ≡ None → node_at tree q ≡ None) → with_all tree rows ≡ rows
replayed tree rows order rows_order only =
    same_tree (with_all tree rows) rows (IsInOrder-with_all tree rows order) rows_order (λ q. node_at-with_all tree rows rows_order q ∙ step q (node_at rows q) refl)
  where
    step : (q : List ℕ) (o : Option Item) → node_at rows q ≡ o → or_else o (node_at tree q) ≡ o
    step q None e = only q e
    step q (Some x) e = refl

-- ---- what was removed

pub node_at-without_all : (tree : Tree) (gone : List (List ℕ)) (q : List ℕ)
    → node_at (without_all tree gone) q ≡ cond (not (list_any (λ path. is_within path q) gone)) (node_at tree q) None
node_at-without_all tree [] q = refl
node_at-without_all tree (path ∷ gone) q =
    node_at-without_all (without tree path) gone q
    ∙ ap (λ o. cond (not (list_any (λ p. is_within p q) gone)) o None) (node_at-without tree path q)
    ∙ step (is_within path q) (list_any (λ p. is_within p q) gone)
  where
    step : (a b : Bool) → cond (not b) (cond (not a) (node_at tree q) None) None ≡ cond (not (a || b)) (node_at tree q) None
    step true true = refl
    step true false = refl
    step false true = refl
    step false false = refl

pub IsInOrder-without_all : (tree : Tree) (gone : List (List ℕ)) → IsInOrder path_cmp tree → IsInOrder path_cmp (without_all tree gone)
IsInOrder-without_all tree [] order = order
IsInOrder-without_all tree (path ∷ gone) order = IsInOrder-without_all (without tree path) gone (IsInOrder-without tree path order)

-- where each path that the rows lack was removed, what is left with the rows put on it is their tree
pub replayed_edits : (base rows : Tree) (gone : List (List ℕ)) → IsInOrder path_cmp base → IsInOrder path_cmp rows
    → ((q : List ℕ) → node_at rows q ≡ None → list_any (λ path. is_within path q) gone ≡ false → node_at base q ≡ None)
    → with_all (without_all base gone) rows ≡ rows
replayed_edits base rows gone order rows_order covered =
    replayed (without_all base gone) rows (IsInOrder-without_all base gone order) rows_order
    (λ q none. node_at-without_all base gone q ∙ step q none (list_any (λ path. is_within path q) gone) refl)
  where
    step : (q : List ℕ) → node_at rows q ≡ None → (b : Bool) → list_any (λ path. is_within path q) gone ≡ b → cond (not b) (node_at base q) None ≡ None
    step q none true e = refl
    step q none false e = covered q none e
