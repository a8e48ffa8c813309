-- A path that comes next behind those of a tree leaves a tree.
use Rattle.std.specs.Prelude.{◌≡◌, ℕ, ◌+◌, ◌≤◌, nat_le, nat_lt, Bool, true, false, ◌&&◌, cond, List, [], ◌∷◌, ◌++◌, length, Some, None}
use Rattle.std.specs.declared.cmp.Ordering.{Ordering}
use Rattle.std.specs.declared.cmp.Ordering.TheVariants.{Less, Greater}
use Rattle.std.specs.Ordering.{ordering_reverse, is_eq}
use Rattle.std.specs.Cmp.{IsTotalOrder, first_so, second_so}
use Rattle.std.specs.FinMap.Entries.{find, put, by_order}
use Rattle.std.specs.List.{AllByRecursion}
use Rattle.std.proofs.Common.{refl, sym, ap, subst, ◌∙◌, arith, length-append}
use Rattle.std.proofs.lemmas.Bool.Decides.{nat_tests}
use Rattle.ordered_lists.specs.Order.{IsBelowAll, IsInOrder, is_after}
use Rattle.ordered_lists.specs.OrderLaws.{IsInOrder-append}
use Rattle.attr_records.specs.declared.nodes.Item.{Item}
use Rattle.attr_records.specs.Items.{Tree, is_dir}
use Rattle.attr_records.specs.Paths.{path_cmp, parent}
use Rattle.attr_records.specs.PathLaws.{path_cmp_total}
use Rattle.attr_records.specs.Trees.{node_at, with_node, is_parent_in, IsTree, broken_rule}
use Rattle.attr_records.specs.TreeLaws.{IsTree-with_node}
use Rattle.restore_stream.specs.Trees.{IsInRange, IsMadeTree, may_follow}

module _ {K X : Type 0} (R : K → K → Ordering) (total : IsTotalOrder R) where
  last_below : (k : K) (es : List (K × X)) (e : K × X) → IsBelowAll R k (es ++ e ∷ []) → R k e.0 ≡ Less
  last_below k [] e h = h.0
  last_below k (f ∷ es) e h = last_below k es e h.1

  -- the key comes after the first one
  first_before : (k : K) (v : X) (e : K × X) (es : List (K × X)) → IsInOrder R (e ∷ es) → is_after R (e ∷ es) k ≡ true → R k e.0 ≡ Greater
  first_before k v e es order after =
      let all = IsInOrder-append R total (e ∷ es) (k, v) order after in
      total.antisymm k e.0 ∙ ap ordering_reverse (last_below e.0 es (k, v) all.0)

  later : (k : K) (e : K × X) (es : List (K × X)) → is_after R (e ∷ es) k ≡ true → is_after R es k ≡ true
  later k e [] after = refl
  later k e (f ∷ es) after = after

  put_after : (k : K) (v : X) (es : List (K × X)) → IsInOrder R es → is_after R es k ≡ true → put R k v es ≡ es ++ (k, v) ∷ []
  put_after k v [] order after = refl
  put_after k v (e ∷ es) order after =
      ap (λ r. by_order r ((k, v) ∷ e ∷ es) ((e.0, v) ∷ es) (e ∷ put R k v es)) (first_before k v e es order after)
      ∙ ap (λ fs. e ∷ fs) (put_after k v es order.1 (later k e es after))

  find_after : (k : K) (v : X) (es : List (K × X)) → IsInOrder R es → is_after R es k ≡ true → find R k es ≡ None
  find_after k v [] order after = refl
  find_after k v (e ∷ es) order after =
      ap (λ r. cond (is_eq r) (Some e.1) (find R k es)) (first_before k v e es order after) ∙ find_after k v es order.1 (later k e es after)

no_rule : (tree : Tree) (path : List ℕ) (dir : Bool) → is_parent_in is_dir tree (parent path) ≡ true → node_at tree path ≡ None
    → nat_le 1048576 (length tree) ≡ false → broken_rule is_dir tree path dir false ≡ None
no_rule tree path dir there none room = rw (there, none, room) refl

full : (n : ℕ) → nat_lt n 1048576 ≡ true → (nat_le 1048576 n ≡ false) × (n + 1 ≤ 1048576)
full n e = (grind (arith, nat_tests), grind (arith, nat_tests))

-- what it says that a path may follow
pub record Follows (tree : Tree) (path : List ℕ) : Type 0 where
  pub after : is_after path_cmp tree path ≡ true
  pub parent : is_parent_in is_dir tree (parent path) ≡ true
  pub room : nat_lt (length tree) 1048576 ≡ true

pub follows : (tree : Tree) (path : List ℕ) → may_follow tree path ≡ true → Follows tree path
unfolding may_follow
follows tree path e =
    let rest = second_so (is_after path_cmp tree path) (is_parent_in is_dir tree (parent path) && nat_lt (length tree) 1048576) e in
    record { after = first_so _ _ e; parent = first_so _ _ rest; room = second_so (is_parent_in is_dir tree (parent path)) _ rest }

each_append : (tree : Tree) (row : List ℕ × Item) → AllByRecursion IsInRange tree → IsInRange row → AllByRecursion IsInRange (tree ++ row ∷ [])
each_append [] row each here = (here, tt)
each_append (first ∷ tree) row each here = (each.0, each_append tree row each.1 here)

pub IsMadeTree-append : (tree : Tree) (row : List ℕ × Item) → IsMadeTree tree → IsInRange row → may_follow tree row.0 ≡ true
    → IsMadeTree (tree ++ row ∷ [])
IsMadeTree-append tree row is range may =
    let f = follows tree row.0 may in
    let order = is.is_tree.in_order in
    let none = find_after path_cmp path_cmp_total row.0 row.1 tree order f.after in
    let room = full (length tree) f.room in
    let put_is : with_node tree row.0 row.1 ≡ tree ++ row ∷ [] = put_after path_cmp path_cmp_total row.0 row.1 tree order f.after in
    record {
      is_tree = subst (λ t. IsTree is_dir t) put_is
          (IsTree-with_node is_dir (λ _. false) tree row.0 row.1 is.is_tree (no_rule tree row.0 (is_dir row.1) f.parent none room.0));
      few = let n : length (tree ++ row ∷ []) ≡ length tree + 1 = length-append tree (row ∷ []) in omega (arith, n, room.1);
      each = each_append tree row is.each range;
    }

-- a row pushed on rows that were reserved for
pub pushed : (old reserved new : Tree) (row : List ℕ × Item) (path : List ℕ) → IsMadeTree old → IsInRange row → reserved ≡ old
    → new ≡ reserved ++ row ∷ [] → path ≡ row.0 → may_follow old path ≡ true → IsMadeTree new
pushed old reserved new row path is range same new_is path_is may =
    rw (new_is, same) (IsMadeTree-append old row is range (ap (may_follow old) (sym path_is) ∙ may))

pub no_paths : IsMadeTree []
no_paths = record { is_tree = record { in_order = tt; parents = λ directory rest there. there }; few = omega arith; each = tt }
