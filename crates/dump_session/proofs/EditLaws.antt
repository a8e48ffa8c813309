-- Laws of an open dump: what one more edit does to its tree.
use Rattle.std.specs.Prelude.{◌≡◌, ◌≢◌, ℕ, Bool, true, false, ◌||◌, not, cond, List, [], ◌∷◌, ◌++◌, length, Option, Some, None, is_some, ◌⊎◌}
use Rattle.std.specs.declared.cmp.Ordering.{Ordering}
use Rattle.std.specs.declared.cmp.Ordering.TheVariants.{Less, Equal, Greater}
use Rattle.std.specs.Ordering.{eq_by_cmp, is_lt, ordering_then, ordering_reverse}
use Rattle.std.specs.Cmp.{tied_itself}
use Rattle.std.specs.FinMap.Entries.{where_key, find-where_key}
use Rattle.std.proofs.Common.{refl, sym, ap, ◌∙◌, inl, inr}
use Rattle.std.proofs.lemmas.Bool.{true≢false}
use Rattle.attr_records.specs.Paths.{path_cmp, parent, is_within}
use Rattle.attr_records.specs.PathLaws.{byte_cmp_total, path_cmp_total, path_cmp_exact, parent-parts, within-itself, within-further, between}
use Rattle.ordered_lists.specs.Order.{IsInOrder}
use Rattle.ordered_lists.specs.OrderLaws.{IsInOrder-where_key}
use Rattle.attr_records.specs.Trees.{node_at, with_node, without, IsTree, is_dir_at}
use Rattle.attr_records.specs.TreeLaws.{same_tree, node_at-with_node, node_at-without, IsInOrder-with_node, IsInOrder-without}
use Rattle.attr_tables.specs.Records.{is_dir}
use Rattle.attr_tables.specs.declared.records.Record.{Record}
use Rattle.attr_tables.specs.declared.records.Record.TheVariants.{File, Dir, Link, Deleted}
use Rattle.merge_view.specs.Views.{Rows, is_mark, is_marked, HasNoMarks, IsWhole, laid, view}
use Rattle.merge_view.specs.ViewLaws.{HasNoMarks-from_each, unmarked, unmarked-laid, IsInOrder-view, node_at-view}
use Rattle.dump_session.specs.Removed.{is_gone, IsApart}
use Rattle.dump_session.proofs.RemovedLaws.{within_or_below}
use Rattle.dump_session.specs.Edits.{outside, edited, AreEdits, left_at}

module _ {X : Type 0} where
  pub node_at-outside : (base : Rows) (removed : List (List ℕ × X)) (path : List ℕ)
      → node_at (outside base removed) path ≡ left_at base removed path
  node_at-outside base removed path =
      find-where_key path_cmp (λ p. not (is_gone removed p)) path (λ p same. ap (λ q. not (is_gone removed q)) (sym (path_cmp_exact path p same))) base

  pub IsInOrder-outside : (base : Rows) (removed : List (List ℕ × X)) → IsInOrder path_cmp base → IsInOrder path_cmp (outside base removed)
  IsInOrder-outside base removed h = IsInOrder-where_key path_cmp (λ p. not (is_gone removed p)) base h

  pub IsInOrder-edited : (base : Rows) (removed : List (List ℕ × X)) (puts : Rows) → IsInOrder path_cmp base → IsInOrder path_cmp puts
      → IsInOrder path_cmp (edited base removed puts)
  IsInOrder-edited base removed puts g h = IsInOrder-view (outside base removed) puts (IsInOrder-outside base removed g) h

  -- a put node, else what is left of the base
  pub node_at-edited : (base : Rows) (removed : List (List ℕ × X)) (puts : Rows) → IsInOrder path_cmp base → IsInOrder path_cmp puts
      → (path : List ℕ) → node_at (edited base removed puts) path ≡ laid (node_at puts path) (left_at base removed path)
  node_at-edited base removed puts g h path =
      node_at-view (outside base removed) puts (IsInOrder-outside base removed g) h path
      ∙ ap (laid (node_at puts path)) (node_at-outside base removed path)

  -- before the first edit
  pub edited-none : (base : Rows) (removed : List (List ℕ × X)) → removed ≡ [] → IsInOrder path_cmp base → edited base removed [] ≡ base
  edited-none base removed none h = same_tree (edited base removed []) base (IsInOrder-edited base removed [] h tt) h (λ path.
      node_at-edited base removed [] h tt path ∙ ap (λ others. left_at base others path) none)

pub laid_node : (node : Record) (base : Option Record) → is_mark node ≡ false → laid (Some node) base ≡ Some node
laid_node (File file) base e = refl
laid_node (Dir dir) base e = refl
laid_node (Link link) base e = refl
laid_node Deleted base e = cc

module _ {X : Type 0} (base : Rows) (removed : List (List ℕ × X)) (puts : Rows) (base_order : IsInOrder path_cmp base) (puts_order : IsInOrder path_cmp puts) where
  -- a node that is put stands in the tree
  pub edited-put : (path : List ℕ) (node : Record) → is_mark node ≡ false
      → edited base removed (with_node puts path node) ≡ with_node (edited base removed puts) path node
  edited-put path node clean =
      let more = IsInOrder-with_node puts path node puts_order in
      same_tree (edited base removed (with_node puts path node)) (with_node (edited base removed puts) path node)
      (IsInOrder-edited base removed (with_node puts path node) base_order more)
      (IsInOrder-with_node (edited base removed puts) path node (IsInOrder-edited base removed puts base_order puts_order)) (λ asked.
      node_at-edited base removed (with_node puts path node) base_order more asked
      ∙ ap (λ entry. laid entry (left_at base removed asked)) (node_at-with_node puts path node asked)
      ∙ step asked (eq_by_cmp path_cmp asked path)
      ∙ ap (cond (eq_by_cmp path_cmp asked path) (Some node)) (sym (node_at-edited base removed puts base_order puts_order asked))
      ∙ sym (node_at-with_node (edited base removed puts) path node asked))
    where
      step : (asked : List ℕ) (b : Bool)
          → laid (cond b (Some node) (node_at puts asked)) (left_at base removed asked) ≡ cond b (Some node) (laid (node_at puts asked) (left_at base removed asked))
      step asked true = laid_node node (left_at base removed asked) clean
      step asked false = refl

  -- more removed paths, that take away what lies within a path, leave the tree without it
  pub edited-remove : (more : List (List ℕ × X)) (path : List ℕ)
      → ((asked : List ℕ) → is_gone more asked ≡ (is_within path asked || is_gone removed asked))
      → edited base more (without puts path) ≡ without (edited base removed puts) path
  edited-remove more path gone =
      let fewer = IsInOrder-without puts path puts_order in
      same_tree (edited base more (without puts path)) (without (edited base removed puts) path)
      (IsInOrder-edited base more (without puts path) base_order fewer)
      (IsInOrder-without (edited base removed puts) path (IsInOrder-edited base removed puts base_order puts_order)) (λ asked.
      node_at-edited base more (without puts path) base_order fewer asked
      ∙ (λ i. laid (node_at-without puts path asked i) (cond (not (gone asked i)) (node_at base asked) None))
      ∙ step asked (is_within path asked)
      ∙ ap (λ node. cond (not (is_within path asked)) node None) (sym (node_at-edited base removed puts base_order puts_order asked))
      ∙ sym (node_at-without (edited base removed puts) path asked))
    where
      step : (asked : List ℕ) (b : Bool)
          → laid (cond (not b) (node_at puts asked) None) (cond (not (b || is_gone removed asked)) (node_at base asked) None) ≡ cond (not b) (laid (node_at puts asked) (left_at base removed asked)) None
      step asked true = refl
      step asked false = refl

-- ---- the directory that a path lies in

-- a directory comes before a path that lies in it
pub parent_before : (path directory : List ℕ) → parent path ≡ Some directory
    → (is_within directory path ≡ true) × (path_cmp directory path ≡ Less)
parent_before path directory e =
    let parts = parent-parts path directory e in
    let within : is_within directory path ≡ true = ap (is_within directory) parts.1 ∙ within-further directory directory parts.0 (within-itself directory) in
    (within, ap (path_cmp directory) parts.1 ∙ before directory parts.0)
  where
    before : (directory name : List ℕ) → path_cmp directory (directory ++ 47 ∷ name) ≡ Less
    before [] name = refl
    before (byte ∷ directory) name = before_more byte (before directory name)
      where
        before_more : (byte : ℕ) → path_cmp directory (directory ++ 47 ∷ name) ≡ Less
            → path_cmp (byte ∷ directory) ((byte ∷ directory) ++ 47 ∷ name) ≡ Less
        before_more byte rest =
            ap (λ r. ordering_then r (path_cmp directory (directory ++ 47 ∷ name))) (tied_itself byte_cmp_total byte) ∙ rest

-- below a directory of a tree there are only directories above what is there
pub dir_above : (tree : Rows) (directory path : List ℕ) → IsTree is_dir tree → is_within directory path ≡ true → path ≢ directory
    → is_some (node_at tree path) ≡ true → is_dir_at is_dir tree directory ≡ true
dir_above tree directory path is_tree within other there = step (within_or_below directory path within)
  where
    step : ((path ≡ directory) ⊎ ((rest : List ℕ) × (path ≡ directory ++ 47 ∷ rest))) → is_dir_at is_dir tree directory ≡ true
    step (inl e) = absurd (other e)
    step (inr w) = is_tree.parents directory w.0 (ap (λ p. is_some (node_at tree p)) (sym w.1) ∙ there)

-- a path of which no put before a path below it lies within it was not put
pub not_put : {X : Type 0} (puts : List (List ℕ × X)) (directory path last : List ℕ) → is_within directory path ≡ true
    → path_cmp directory path ≡ Less → path_cmp last path ≡ Less → is_within directory last ≡ false
    → ((asked : List ℕ) → path_cmp asked path ≡ Less → is_some (node_at puts asked) ≡ true → is_lt (path_cmp last asked) ≡ false)
    → is_some (node_at puts directory) ≡ false
not_put puts directory path last within before early apart greatest = step (is_some (node_at puts directory)) refl
  where
    order : is_some (node_at puts directory) ≡ true → (r : Ordering) → path_cmp directory last ≡ r → ⊥
    order there Less is = true≢false (sym (between directory last path within is early) ∙ apart)
    order there Equal is =
        true≢false (sym (ap (is_within directory) (sym (path_cmp_exact directory last is)) ∙ within-itself directory) ∙ apart)
    order there Greater is =
        true≢false (sym (ap is_lt (path_cmp_total.antisymm last directory ∙ ap ordering_reverse is)) ∙ greatest directory before there)

    step : (b : Bool) → is_some (node_at puts directory) ≡ b → b ≡ false
    step true is = absurd (order is (path_cmp directory last) refl)
    step false is = refl
