-- Laws of trees: what puts and removals do at each path, and that they keep trees.
use Rattle.std.specs.Prelude.{◌≡◌, ℕ, ◌+◌, ◌≤◌, nat_le, Bool, true, false, not, ◌&&◌, cond, List, [], ◌∷◌, ◌++◌, length, Option, Some, None, is_some, if◌then◌else◌, ◌⊎◌}
use Rattle.std.specs.Ordering.{eq_by_cmp}
use Rattle.std.specs.FinMap.Entries.{find-put, find-where_key, length-put}
use Rattle.std.specs.Cmp.{Equal-is}
use Rattle.std.specs.Map.{lookup}
use Rattle.std.specs.BTreeMap.{insert_entry, is_at}
use Rattle.std.proofs.Common.{refl, sym, ap, ◌∙◌, inl, inr, arith}
use Rattle.std.proofs.lemmas.Bool.{true≢false}
use Rattle.std.proofs.lemmas.Bool.Decides.{nat_tests}
use Rattle.attr_records.specs.declared.trees.PutRule.{PutRule}
use Rattle.attr_records.specs.Paths.{path_cmp, parent, is_within}
use Rattle.attr_records.specs.PathLaws.{path_cmp_total, path_cmp_exact, parent-below, within-further}
use Rattle.ordered_lists.specs.Order.{IsInOrder}
use Rattle.ordered_lists.specs.OrderLaws.{IsInOrder-put, IsInOrder-where_key, is_sorted_from_order, same_in_order, lookup-find, insert_entry-put}
use Rattle.attr_records.specs.Trees.{node_at, with_node, without, is_dir_found, is_dir_at, is_parent_in, IsTree, broken_rule, broken_put}

same_Equal : (a b : List ℕ) → eq_by_cmp path_cmp a b ≡ true → a ≡ b
same_Equal a b e = path_cmp_exact a b ((Equal-is (path_cmp a b)).0 e)

rule_passed : (broken : Bool) (rule : PutRule) (rest : Option PutRule) → (if broken then Some rule else rest) ≡ None
    → (broken ≡ false) × (rest ≡ None)
rule_passed true rule rest e = cc
rule_passed false rule rest e = (refl, e)

turned : (b : Bool) → not b ≡ false → b ≡ true
turned true e = refl
turned false e = cc

module _ {X : Type 0} where
  -- ---- what puts and removals do at each path

  pub node_at-with_node : (tree : List (List ℕ × X)) (path : List ℕ) (node : X) (asked : List ℕ)
      → node_at (with_node tree path node) asked ≡ cond (eq_by_cmp path_cmp asked path) (Some node) (node_at tree asked)
  node_at-with_node tree path node asked = find-put path_cmp path_cmp_total asked path node tree

  pub node_at-without : (tree : List (List ℕ × X)) (path asked : List ℕ)
      → node_at (without tree path) asked ≡ cond (not (is_within path asked)) (node_at tree asked) None
  node_at-without tree path asked =
      find-where_key path_cmp (λ p. not (is_within path p)) asked (λ p same. ap (λ q. not (is_within path q)) (sym (path_cmp_exact asked p same))) tree

  -- a path outside keeps its node
  pub without-other : (tree : List (List ℕ × X)) (path asked : List ℕ) → is_within path asked ≡ false
      → node_at (without tree path) asked ≡ node_at tree asked
  without-other tree path asked outside = node_at-without tree path asked ∙ ap (λ b. cond (not b) (node_at tree asked) None) outside

  -- trees in order that answer alike are one
  pub same_tree : (tree other : List (List ℕ × X)) → IsInOrder path_cmp tree → IsInOrder path_cmp other
      → ((path : List ℕ) → node_at tree path ≡ node_at other path) → tree ≡ other
  same_tree tree other a b alike = same_in_order path_cmp path_cmp_total path_cmp_exact tree other a b alike

  pub IsInOrder-with_node : (tree : List (List ℕ × X)) (path : List ℕ) (node : X) → IsInOrder path_cmp tree
      → IsInOrder path_cmp (with_node tree path node)
  IsInOrder-with_node tree path node h = IsInOrder-put path_cmp path_cmp_total path node tree h

  pub IsInOrder-without : (tree : List (List ℕ × X)) (path : List ℕ) → IsInOrder path_cmp tree → IsInOrder path_cmp (without tree path)
  IsInOrder-without tree path h = IsInOrder-where_key path_cmp (λ p. not (is_within path p)) tree h

  -- what a `BTreeMap` finds and inserts
  pub lookup-node_at : (tree : List (List ℕ × X)) (path : List ℕ) → lookup (is_at (path_cmp path)) tree ≡ node_at tree path
  lookup-node_at tree path = lookup-find path_cmp path tree

  pub insert_entry-with_node : (tree : List (List ℕ × X)) (path : List ℕ) (node : X)
      → insert_entry path_cmp tree path node ≡ with_node tree path node
  insert_entry-with_node tree path node = insert_entry-put path_cmp path node tree

  -- ---- how many paths

  pub length-with_node : (tree : List (List ℕ × X)) (path : List ℕ) (node : X) → IsInOrder path_cmp tree
      → length (with_node tree path node) ≡ cond (is_some (node_at tree path)) (length tree) (length tree + 1)
  length-with_node tree path node h = length-put path_cmp path_cmp_total path node tree (is_sorted_from_order path_cmp tree h)

  pub length_without-le : (tree : List (List ℕ × X)) (path : List ℕ) → length (without tree path) ≤ length tree
  length_without-le [] path = omega arith
  length_without-le (e ∷ tree) path = step (is_within path e.0) (length_without-le tree path)
    where
      step : (b : Bool) → length (without tree path) ≤ length tree
          → length (cond (not b) (e ∷ without tree path) (without tree path)) ≤ length (e ∷ tree)
      step true rest = omega arith
      step false rest = omega arith

  -- ---- put and removal keep trees

  module _ (is_dir : X → Bool) where
    -- what it says that no rule is broken
    pub record MayPut (tree : List (List ℕ × X)) (path : List ℕ) (dir large : Bool) : Type 0 where
      pub parent_there : is_parent_in is_dir tree (parent path) ≡ true
      pub not_over_dir : (is_dir_at is_dir tree path && not dir) ≡ false
      pub few : (nat_le 1048576 (length tree) && not (is_some (node_at tree path))) ≡ false
      pub small : large ≡ false

    pub may_put : (tree : List (List ℕ × X)) (path : List ℕ) (dir large : Bool) → broken_rule is_dir tree path dir large ≡ None
        → MayPut tree path dir large
    may_put tree path dir large e =
        let a : (not (is_parent_in is_dir tree (parent path)) ≡ false) × (_ ≡ None) = rule_passed _ _ _ e in
        let b : ((is_dir_at is_dir tree path && not dir) ≡ false) × (_ ≡ None) = rule_passed _ _ _ a.1 in
        let c : ((nat_le 1048576 (length tree) && not (is_some (node_at tree path))) ≡ false) × (_ ≡ None) = rule_passed _ _ _ b.1 in
        let d : (large ≡ false) × (_ ≡ None) = rule_passed _ _ _ c.1 in
        record { parent_there = turned _ a.0; not_over_dir = b.0; few = c.0; small = d.0 }

    -- a Dir at a directory is one there after a put that breaks no rule
    dir_stays : (tree : List (List ℕ × X)) (path : List ℕ) (node : X) (directory : List ℕ)
        → (is_dir_at is_dir tree path && not (is_dir node)) ≡ false → is_dir_at is_dir tree directory ≡ true
        → is_dir_at is_dir (with_node tree path node) directory ≡ true
    dir_stays tree path node directory rule there =
        ap (is_dir_found is_dir) (node_at-with_node tree path node directory) ∙ step (eq_by_cmp path_cmp directory path) refl
      where
        is_dir_node : (b : Bool) → (true && not b) ≡ false → b ≡ true
        is_dir_node true e = refl
        is_dir_node false e = cc

        step : (b : Bool) → eq_by_cmp path_cmp directory path ≡ b → is_dir_found is_dir (cond b (Some node) (node_at tree directory)) ≡ true
        step true e =
            let at_path : is_dir_at is_dir tree path ≡ true = ap (is_dir_at is_dir tree) (sym (same_Equal directory path e)) ∙ there in
            is_dir_node (is_dir node) (ap (λ b. b && not (is_dir node)) (sym at_path) ∙ rule)
        step false e = there

    -- the directories above a path are there where its parent is
    above_there : (tree : List (List ℕ × X)) (directory rest : List ℕ) → IsTree is_dir tree
        → is_parent_in is_dir tree (parent (directory ++ 47 ∷ rest)) ≡ true → is_dir_at is_dir tree directory ≡ true
    above_there tree directory rest is_tree there = step (parent-below directory rest)
      where
        found : (node : Option X) → is_dir_found is_dir node ≡ true → is_some node ≡ true
        found None e = e
        found (Some node) e = refl

        step : ((parent (directory ++ 47 ∷ rest) ≡ Some directory) ⊎ ((more : List ℕ) × (parent (directory ++ 47 ∷ rest) ≡ Some (directory ++ 47 ∷ more))))
            → is_dir_at is_dir tree directory ≡ true
        step (inl e) = ap (is_parent_in is_dir tree) (sym e) ∙ there
        step (inr w) =
            is_tree.parents directory w.0 (found (node_at tree (directory ++ 47 ∷ w.0)) (ap (is_parent_in is_dir tree) (sym w.1) ∙ there))

    -- a put that breaks no rule keeps a tree a tree
    pub IsTree-with_node : (is_large : X → Bool) (tree : List (List ℕ × X)) (path : List ℕ) (node : X) → IsTree is_dir tree
        → broken_put is_dir is_large tree path node ≡ None → IsTree is_dir (with_node tree path node)
    IsTree-with_node is_large tree path node is_tree e =
        let may : MayPut tree path (is_dir node) (is_large node) = may_put tree path (is_dir node) (is_large node) e in
        record { in_order = IsInOrder-with_node tree path node is_tree.in_order; parents = λ directory rest there. dir_stays tree path node directory may.not_over_dir (above may directory rest there) }
      where
        above : MayPut tree path (is_dir node) (is_large node) → (directory rest : List ℕ)
            → is_some (node_at (with_node tree path node) (directory ++ 47 ∷ rest)) ≡ true → is_dir_at is_dir tree directory ≡ true
        above may directory rest there =
            step (eq_by_cmp path_cmp (directory ++ 47 ∷ rest) path) refl (ap is_some (sym (node_at-with_node tree path node (directory ++ 47 ∷ rest))) ∙ there)
          where
            step : (b : Bool) → eq_by_cmp path_cmp (directory ++ 47 ∷ rest) path ≡ b
                → is_some (cond b (Some node) (node_at tree (directory ++ 47 ∷ rest))) ≡ true → is_dir_at is_dir tree directory ≡ true
            step true same h =
                above_there tree directory rest is_tree (ap (λ p. is_parent_in is_dir tree (parent p)) (same_Equal (directory ++ 47 ∷ rest) path same) ∙ may.parent_there)
            step false same h = is_tree.parents directory rest h

    -- a removal keeps a tree a tree
    pub IsTree-without : (tree : List (List ℕ × X)) (path : List ℕ) → IsTree is_dir tree → IsTree is_dir (without tree path)
    IsTree-without tree path is_tree =
        record { in_order = IsInOrder-without tree path is_tree.in_order; parents = λ directory rest there. above directory rest there }
      where
        above : (directory rest : List ℕ) → is_some (node_at (without tree path) (directory ++ 47 ∷ rest)) ≡ true
            → is_dir_at is_dir (without tree path) directory ≡ true
        above directory rest there = step (is_within path directory) refl
          where
            stayed : (b : Bool) → is_some (cond (not b) (node_at tree (directory ++ 47 ∷ rest)) None) ≡ true
                → (b ≡ false) × (is_some (node_at tree (directory ++ 47 ∷ rest)) ≡ true)
            stayed true h = cc
            stayed false h = (refl, h)

            here : (is_within path (directory ++ 47 ∷ rest) ≡ false) × (is_some (node_at tree (directory ++ 47 ∷ rest)) ≡ true)
            here =
                stayed (is_within path (directory ++ 47 ∷ rest)) (ap is_some (sym (node_at-without tree path (directory ++ 47 ∷ rest))) ∙ there)

            step : (b : Bool) → is_within path directory ≡ b → is_dir_at is_dir (without tree path) directory ≡ true
            step true within = absurd (true≢false (sym (within-further path directory rest within) ∙ here.0))
            step false within = ap (is_dir_found is_dir) (without-other tree path directory within) ∙ is_tree.parents directory rest here.1

    -- the empty tree
    pub IsTree-nil : IsTree is_dir []
    IsTree-nil = record { in_order = tt; parents = λ directory rest there. there }

    -- a put that breaks no rule leaves at most the most paths
    pub few-with_node : (is_large : X → Bool) (tree : List (List ℕ × X)) (path : List ℕ) (node : X) → IsInOrder path_cmp tree
        → length tree ≤ 1048576 → broken_put is_dir is_large tree path node ≡ None → length (with_node tree path node) ≤ 1048576
    few-with_node is_large tree path node order few e =
        step (is_some (node_at tree path)) (length-with_node tree path node order) (may_put tree path (is_dir node) (is_large node) e).few
      where
        step : (b : Bool) → length (with_node tree path node) ≡ cond b (length tree) (length tree + 1)
            → (nat_le 1048576 (length tree) && not b) ≡ false → length (with_node tree path node) ≤ 1048576
        step true is room = omega arith
        step false is room = grind (arith, nat_tests)
