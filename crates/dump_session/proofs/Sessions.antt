-- What an open dump's parts say of its tree, and what edits keep.
use Rattle.std.proofs.Common.{◌≡◌, ◌≢◌, ◌+◌, ◌-◌, ◌≤◌, ℕ, Bool, true, false, not, cond, List, [], ◌∷◌, length, Option, Some, None, is_some, refl, sym, ap, ◌∙◌, subst, arith}
use Rattle.std.specs.List.{filter}
use Rattle.std.specs.Ordering.{eq_by_cmp}
use Rattle.attr_records.specs.Paths.{path_cmp, is_within}
use Rattle.ordered_lists.specs.Order.{IsInOrder}
use Rattle.attr_records.specs.Trees.{node_at, with_node, without, IsTree, is_dir_at, is_dir_found, broken_rule}
use Rattle.attr_records.specs.TreeLaws.{IsTree-with_node, IsTree-without, node_at-with_node, IsInOrder-with_node, IsInOrder-without, length-with_node}
use Rattle.attr_tables.specs.Records.{is_dir}
use Rattle.attr_tables.specs.declared.records.Record.{Record}
use Rattle.merge_view.specs.Views.{Rows, is_mark, is_marked, HasNoMarks, laid}
use Rattle.merge_view.specs.ViewLaws.{unmarked, HasNoMarks-from_each}
use Rattle.merge_view.specs.Runs.{within_rows}
use Rattle.merge_view.specs.RunLaws.{IsInOrder-within_rows}
use Rattle.dump_session.specs.Removed.{IsApart}
use Rattle.dump_session.specs.Rules.{IsWholeTree}
use Rattle.dump_session.specs.Edits.{outside, edited, left_at, AreEdits}
use Rattle.dump_session.proofs.EditLaws.{laid_node, node_at-outside, node_at-edited, IsInOrder-outside, IsInOrder-edited, edited-put, edited-none, dir_above}
use Rattle.dump_session.specs.Counts.{paths_of, fresh}
use Rattle.dump_session.proofs.CountLaws.{length-view, within-view, length-without, node_at-within_rows}

with_no_mark : (puts : Rows) (path : List ℕ) (node : Record) → IsInOrder path_cmp puts → HasNoMarks puts → is_mark node ≡ false
    → HasNoMarks (with_node puts path node)
with_no_mark puts path node h clean no_mark =
    HasNoMarks-from_each (with_node puts path node) (IsInOrder-with_node puts path node h) (λ asked.
    ap is_marked (node_at-with_node puts path node asked) ∙ step asked (eq_by_cmp path_cmp asked path))
  where
    step : (asked : List ℕ) (b : Bool) → is_marked (cond b (Some node) (node_at puts asked)) ≡ false
    step asked true = no_mark
    step asked false = unmarked puts clean asked

filter_none : (puts : Rows) (path : List ℕ) → IsInOrder path_cmp puts → HasNoMarks puts → HasNoMarks (without puts path)
filter_none puts path h clean = HasNoMarks-filter puts clean
  where
    HasNoMarks-filter : (rows : Rows) → HasNoMarks rows → HasNoMarks (without rows path)
    HasNoMarks-filter [] g = tt
    HasNoMarks-filter (row ∷ rows) g = step (not (is_within path row.0)) (HasNoMarks-filter rows g.1)
      where
        step : (b : Bool) → HasNoMarks (without rows path) → HasNoMarks (cond b (row ∷ without rows path) (without rows path))
        step true rest = (g.0, rest)
        step false rest = rest

pub within_no_marks : (directory : List ℕ) (rows : Rows) → HasNoMarks rows → HasNoMarks (within_rows directory rows)
within_no_marks directory [] g = tt
within_no_marks directory (row ∷ rows) g = step (is_within directory row.0) (within_no_marks directory rows g.1)
  where
    step : (b : Bool) → HasNoMarks (within_rows directory rows)
        → HasNoMarks (cond b (row ∷ within_rows directory rows) (within_rows directory rows))
    step true rest = (g.0, rest)
    step false rest = rest

module _ {X : Type 0} where
  -- ---- look-ups

  pub from_puts : (base : Rows) (removed : List (List ℕ × X)) (puts : Rows) (path : List ℕ) (node found : Record) → IsInOrder path_cmp base
      → IsInOrder path_cmp puts
      → Some node ≡ node_at puts path → found ≡ node → is_mark node ≡ false → Some found ≡ node_at (edited base removed puts) path
  from_puts base removed puts path node found g h there is clean =
      ap Some is ∙ sym (laid_node node (left_at base removed path) clean) ∙ ap (λ entry. laid entry (left_at base removed path)) there
      ∙ sym (node_at-edited base removed puts g h path)

  pub from_base : (base : Rows) (removed : List (List ℕ × X)) (puts : Rows) (path : List ℕ) (found : Option Record)
      → IsInOrder path_cmp base → IsInOrder path_cmp puts
      → None ≡ node_at puts path → found ≡ left_at base removed path → found ≡ node_at (edited base removed puts) path
  from_base base removed puts path found g h none is =
      is ∙ ap (λ entry. laid entry (left_at base removed path)) none ∙ sym (node_at-edited base removed puts g h path)

  -- ---- what a put keeps

  pub begun : (base : Rows) (removed : List (List ℕ × X)) (puts : Rows) (count : ℕ) → removed ≡ [] → puts ≡ [] → IsInOrder path_cmp base
      → count ≡ length base → AreEdits base removed puts count
  begun base removed puts count none_removed none_put order count_is =
      let same : edited base removed puts ≡ base = ap (edited base removed) none_put ∙ edited-none base removed none_removed order in
      record {
        base_in_order = order;
        puts_in_order = subst (IsInOrder path_cmp) (sym none_put) tt;
        removed_in_order = subst (IsInOrder path_cmp) (sym none_removed) tt;
        apart = subst IsApart (sym none_removed) (record { same = λ a b g h within. cc });
        no_marks = subst HasNoMarks (sym none_put) tt;
        count_is = count_is ∙ ap length (sym same);
      }

  pub put_keeps : (base : Rows) (removed : List (List ℕ × X)) (puts more : Rows) (count next : ℕ) (path : List ℕ) (node : Record)
      → AreEdits base removed puts count → is_mark node ≡ false
      → more ≡ with_node puts path node
      → next ≡ cond (is_some (node_at (edited base removed puts) path)) (length (edited base removed puts)) (length (edited base removed puts) + 1)
      → AreEdits base removed more next
  put_keeps base removed puts more count next path node edits clean is next_is =
      let tree : edited base removed more ≡ with_node (edited base removed puts) path node = ap (edited base removed) is ∙ edited-put base removed puts edits.base_in_order edits.puts_in_order path node clean in
      record {
        base_in_order = edits.base_in_order;
        puts_in_order = subst (IsInOrder path_cmp) (sym is) (IsInOrder-with_node puts path node edits.puts_in_order);
        removed_in_order = edits.removed_in_order;
        apart = edits.apart;
        no_marks = subst HasNoMarks (sym is) (with_no_mark puts path node edits.puts_in_order edits.no_marks clean);
        count_is = next_is ∙ sym (length-with_node (edited base removed puts) path node (IsInOrder-edited base removed puts edits.base_in_order edits.puts_in_order)) ∙ ap length (sym tree);
      }

  -- ---- what a removal keeps

  pub remove_keeps : (base : Rows) (removed left : List (List ℕ × X)) (puts fewer : Rows) (count taken next : ℕ) (path : List ℕ)
      → AreEdits base removed puts count → IsInOrder path_cmp left → IsApart left
      → edited base left fewer ≡ without (edited base removed puts) path → fewer ≡ without puts path
      → taken ≡ length (within_rows path (edited base removed puts)) → next ≡ count - taken → AreEdits base left fewer next
  remove_keeps base removed left puts fewer count taken next path edits order apart tree is taken_is next_is =
      let whole = length-without (edited base removed puts) path in
      record {
        base_in_order = edits.base_in_order;
        puts_in_order = subst (IsInOrder path_cmp) (sym is) (IsInOrder-without puts path edits.puts_in_order);
        removed_in_order = order;
        apart = apart;
        no_marks = subst HasNoMarks (sym is) (filter_none puts path edits.puts_in_order edits.no_marks);
        count_is = counted (length (without (edited base removed puts) path)) (length (within_rows path (edited base removed puts))) (length (edited base removed puts)) whole edits.count_is taken_is ∙ ap length (sym tree);
      }
    where
      counted : (rest gone all : ℕ) → rest + gone ≡ all → count ≡ all → taken ≡ gone → next ≡ rest
      counted rest gone all whole count_is gone_is = omega arith

  -- ---- how many paths a removal takes away

  fresh_paths : (base : Rows) (removed : List (List ℕ × X)) (path : List ℕ) (rows : Rows)
      → ((row : List ℕ × Record) → is_within path row.0 ≡ true → is_within path row.0 ≡ true)
      → length (fresh (within_rows path (outside base removed)) (within_rows path rows)) ≡ length (filter (λ p. not (is_some (left_at base removed p))) (paths_of (within_rows path rows)))
  fresh_paths base removed path [] same = refl
  fresh_paths base removed path (row ∷ rows) same = step (is_within path row.0) refl (fresh_paths base removed path rows same)
    where
      found : is_within path row.0 ≡ true → node_at (within_rows path (outside base removed)) row.0 ≡ left_at base removed row.0
      found within =
          node_at-within_rows path (outside base removed) row.0 ∙ ap (λ b. cond b (node_at (outside base removed) row.0) None) within
          ∙ node_at-outside base removed row.0

      counted : (b c : Bool) (m n : ℕ) (ms : Rows) (ns : List (List ℕ)) → b ≡ c → length ms ≡ length ns
          → length (cond (not b) (row ∷ ms) ms) ≡ length (cond (not c) (row.0 ∷ ns) ns)
      counted true true m n ms ns e f = f
      counted false false m n ms ns e f = omega arith
      counted true false m n ms ns e f = cc
      counted false true m n ms ns e f = cc

      step : (b : Bool) → is_within path row.0 ≡ b
          → length (fresh (within_rows path (outside base removed)) (within_rows path rows)) ≡ length (filter (λ p. not (is_some (left_at base removed p))) (paths_of (within_rows path rows)))
          → length (fresh (within_rows path (outside base removed)) (cond b (row ∷ within_rows path rows) (within_rows path rows))) ≡ length (filter (λ p. not (is_some (left_at base removed p))) (paths_of (cond b (row ∷ within_rows path rows) (within_rows path rows))))
      step true is rest =
          counted (is_some (node_at (within_rows path (outside base removed)) row.0)) (is_some (left_at base removed row.0)) 0 0 _ _ (ap is_some (found is)) rest
      step false is rest = rest

  pub taken-count : (base : Rows) (removed : List (List ℕ × X)) (puts : Rows) (path : List ℕ) (paths : List (List ℕ))
      → IsInOrder path_cmp base → IsInOrder path_cmp puts → HasNoMarks puts → paths ≡ paths_of (within_rows path puts)
      → length (within_rows path (outside base removed)) + length (filter (λ p. not (is_some (left_at base removed p))) paths) ≡ length (within_rows path (edited base removed puts))
  taken-count base removed puts path paths g h clean is =
      let order = IsInOrder-outside base removed g in
      (λ i. length (within_rows path (outside base removed)) + length (filter (λ p. not (is_some (left_at base removed p))) (is i)))
      ∙ ap (λ n. length (within_rows path (outside base removed)) + n) (sym (fresh_paths base removed path puts (λ row within. within)))
      ∙ sym (ap length (within-view path (outside base removed) puts order h)
      ∙ length-view (within_rows path (outside base removed)) (within_rows path puts) (IsInOrder-within_rows path (outside base removed) order) (IsInOrder-within_rows path puts h) (within_no_marks path puts clean))

  pub taken-le : (base : Rows) (removed : List (List ℕ × X)) (puts : Rows) (path : List ℕ)
      → length (within_rows path (edited base removed puts)) ≤ length (edited base removed puts)
  taken-le base removed puts path = omega (arith, length-without (edited base removed puts) path)

  -- ---- the directory that a path lies in

  -- a directory that was not put is what is left of the base
  pub dir_left : (base : Rows) (removed : List (List ℕ × X)) (puts : Rows) (directory : List ℕ) (answer : Bool) → IsInOrder path_cmp base
      → IsInOrder path_cmp puts → node_at puts directory ≡ None
      → answer ≡ is_dir_found is_dir (left_at base removed directory) → answer ≡ is_dir_at is_dir (edited base removed puts) directory
  dir_left base removed puts directory answer g h none is =
      is ∙ ap (λ entry. is_dir_found is_dir (laid entry (left_at base removed directory))) (sym none)
      ∙ ap (is_dir_found is_dir) (sym (node_at-edited base removed puts g h directory))

  put_at : (base : Rows) (removed : List (List ℕ × X)) (puts : Rows) (path : List ℕ) (node : Record) → IsInOrder path_cmp base
      → IsInOrder path_cmp puts → HasNoMarks puts → node_at puts path ≡ Some node → node_at (edited base removed puts) path ≡ Some node
  put_at base removed puts path node g h clean there =
      node_at-edited base removed puts g h path ∙ ap (λ entry. laid entry (left_at base removed path)) there
      ∙ laid_node node (left_at base removed path) (ap is_marked (sym there) ∙ unmarked puts clean path)

  -- a directory that was put
  pub dir_put : (base : Rows) (removed : List (List ℕ × X)) (puts : Rows) (directory last : List ℕ) (node : Record) (answer : Bool)
      → IsInOrder path_cmp base → IsInOrder path_cmp puts → HasNoMarks puts → node_at puts last ≡ Some node
      → last ≡ directory → answer ≡ is_dir node → answer ≡ is_dir_at is_dir (edited base removed puts) directory
  dir_put base removed puts directory last node answer g h clean there is e =
      e ∙ ap (is_dir_found is_dir) (sym (put_at base removed puts last node g h clean there))
      ∙ ap (is_dir_at is_dir (edited base removed puts)) is

  -- a directory that something was put below
  pub dir_over : (base : Rows) (removed : List (List ℕ × X)) (puts : Rows) (directory last : List ℕ) (node : Record)
      → IsInOrder path_cmp base → IsInOrder path_cmp puts → HasNoMarks puts → IsTree is_dir (edited base removed puts)
      → node_at puts last ≡ Some node → is_within directory last ≡ true → last ≢ directory
      → true ≡ is_dir_at is_dir (edited base removed puts) directory
  dir_over base removed puts directory last node g h clean is_tree there within other =
      sym (dir_above (edited base removed puts) directory last is_tree within other (ap is_some (put_at base removed puts last node g h clean there)))

-- ---- whole trees stay whole trees

pub put_whole : (tree more : Rows) (path : List ℕ) (node : Record) → is_mark node ≡ false
    → broken_rule is_dir tree path (is_dir node) false ≡ None → more ≡ with_node tree path node → IsWholeTree tree → IsWholeTree more
put_whole tree more path node clean rule is was = subst IsWholeTree (sym is) (record {
  no_marks = with_no_mark tree path node was.is_tree.in_order was.no_marks clean;
  is_tree = IsTree-with_node is_dir (λ _. false) tree path node was.is_tree rule;
})

pub remove_whole : (tree fewer : Rows) (path : List ℕ) → fewer ≡ without tree path → IsWholeTree tree → IsWholeTree fewer
remove_whole tree fewer path is was = subst IsWholeTree (sym is) (record {
  no_marks = filter_none tree path was.is_tree.in_order was.no_marks;
  is_tree = IsTree-without is_dir tree path was.is_tree;
})
