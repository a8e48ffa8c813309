-- The entries of a run, by halves, and one block more of the tables that they are compared with.
use Rattle.std.specs.Prelude.{◌≡◌, ℕ, zero, suc, ◌+◌, ◌-◌, ◌<◌, ◌≤◌, ◌==◌, Bool, true, false, not, List, [], ◌∷◌, length, drop, if◌then◌else◌}
use Rattle.std.proofs.Common.{refl, sym, ap, ◌∙◌, get_or, arith}
use Rattle.std.proofs.lemmas.Bool.{false≢true}
use Rattle.std.proofs.lemmas.Bool.Decides.{nat_tests}
use borrow.Author.Tests.{eqb-true}
use Rattle.std.proofs.lemmas.List.{length-drop, drop_all}
use Rattle.ordered_lists.specs.Order.{IsInOrder}
use Rattle.attr_records.specs.Paths.{path_cmp}
use Rattle.backup_rules.specs.declared.lines.Line.{Line}
use Rattle.merge_view.specs.Views.{Rows, view, stacked, trimmed, reverse}
use Rattle.merge_view.specs.ViewLaws.{IsInOrder-trimmed, trimmed-view}
use Rattle.merge_view.specs.Tables.{AllInOrder}
use Rattle.merge_view.specs.TableLaws.{view-stack, none-stacked}
use Rattle.backup_delete.specs.Trees.{tree_of, is_first_filled}
use Rattle.backup_delete.specs.RunFolds.{resolved, remaining, goes_on}
use Rattle.backup_delete.specs.RunFoldsLaws.{trimmed-further, trimmed-none}
use Rattle.backup_delete.proofs.AddedLaws.{tree_order}
use Rattle.backup_delete.proofs.Steps.{one_at, line_at, line_is}

order_drop : (n : ℕ) (tables : List Rows) → AllInOrder tables → AllInOrder (drop n tables)
order_drop zero tables all = all
order_drop (suc n) [] all = tt
order_drop (suc n) (table ∷ tables) all = order_drop n tables all.1

-- the first filled one is behind one that isn't filled
pub moves : (lines : List Line) (i at result : ℕ) → i ≤ result → i < at → false ≡ is_first_filled (drop i lines)
    → (result < at → is_first_filled (drop result lines) ≡ true) → i < result
moves lines i at result after more here filled = step (i == result) refl
  where
    less : (i == result) ≡ false → i < result
    less e = grind (arith, nat_tests, e, after)

    step : (b : Bool) → (i == result) ≡ b → i < result
    step true e =
        let same = eqb-true i result e in
        absurd (false≢true (here ∙ ap (λ m. is_first_filled (drop m lines)) same ∙ filled (omega (arith, same, more))))
    step false e = less e

stops : (entries : Rows) (line : Line) (lines : List Line) → goes_on entries (line ∷ lines) ≡ false → (table tree : Rows)
    → trimmed table entries ≡ trimmed (if line.filled then table else tree) entries
stops [] line lines e table tree = trimmed-none table ∙ sym (trimmed-none (if line.filled then table else tree))
stops (row ∷ rest) line lines e table tree = step line.filled e
  where
    step : (b : Bool) → not b ≡ false → trimmed table (row ∷ rest) ≡ trimmed (if b then table else tree) (row ∷ rest)
    step true e = refl
    step false e = cc

unfilled : (b : Bool) → not b ≡ true → false ≡ b
unfilled true e = cc
unfilled false e = refl

pub going : (entries : Rows) (lines : List Line) (i : ℕ) → i ≤ length lines → goes_on entries (drop i lines) ≡ true
    → (false ≡ is_first_filled (drop i lines)) × (i < length lines)
going entries lines i within e = step entries (drop i lines) (length-drop i lines) e
  where
    step : (es : Rows) (ls : List Line) → length ls ≡ length lines - i → goes_on es ls ≡ true → (false ≡ is_first_filled ls) × (i < length lines)
    step es [] n e = cc
    step [] (line ∷ ls) n e = cc
    step (row ∷ es) (line ∷ ls) n e = (unfilled line.filled e, omega (arith, n))

pub stop_behind : (entries : Rows) (lines : List Line) (i : ℕ) → length lines ≤ i → false ≡ goes_on entries (drop i lines)
stop_behind entries lines i end = ap (goes_on entries) (sym (drop_all i lines end))

stop_empty : (lines : List Line) → false ≡ goes_on [] lines
stop_empty [] = refl
stop_empty (line ∷ lines) = refl

pub stop_none : (entries : Rows) (lines : List Line) → entries ≡ [] → false ≡ goes_on entries lines
stop_none entries lines none = stop_empty lines ∙ ap (λ (es : Rows). goes_on es lines) (sym none)

pub go_here : (entries : Rows) (lines : List Line) (i : ℕ) (b : Bool) → (entries ≡ [] → ⊥) → i < length lines
    → b ≡ is_first_filled (drop i lines) → not b ≡ goes_on entries (drop i lines)
go_here entries lines i b some within is = ap not is ∙ step entries (drop i lines) some (length-drop i lines)
  where
    step : (es : Rows) (ls : List Line) → (es ≡ [] → ⊥) → length ls ≡ length lines - i → not (is_first_filled ls) ≡ goes_on es ls
    step [] ls some n = absurd (some refl)
    step (row ∷ es) [] some n = absurd (omega (arith, n, within))
    step (row ∷ es) (line ∷ ls) some n = refl

pub filled_here : (lines : List Line) (i : ℕ) → i < length lines → (line_at lines i).filled ≡ is_first_filled (drop i lines)
filled_here lines i within = ap is_first_filled (sym (one_at lines i (line_at lines i) within (line_is lines i within)))

module _ (lines : List Line) (tables : List Rows) where
  abbrev pub tree_from : ℕ → Rows
  tree_from n = tree_of (drop n lines) (drop n tables)

  pub from_order : (n : ℕ) → AllInOrder tables → IsInOrder path_cmp (tree_from n)
  from_order n all = tree_order (drop n lines) (drop n tables) (order_drop n tables all)

  -- the tree of one that isn't filled
  pub unfilled_tree : (i n : ℕ) (table : Rows) → n ≡ i + 1 → i < length lines → length tables ≡ length lines → table ≡ get_or tables i table
      → false ≡ is_first_filled (drop i lines) → tree_from i ≡ view (tree_from n) table
  unfilled_tree i n table next within same is stays =
      let line = line_at lines i in
      let rows : i < length tables = omega (arith, within, same) in
      let at = one_at lines i line within (line_is lines i within) in
      (λ k. tree_of (at k) (one_at tables i table rows is k))
      ∙ ap (λ b. if b then table else view (tree_from (i + 1)) table) (sym (stays ∙ ap is_first_filled at))
      ∙ ap (λ m. view (tree_from m) table) (sym next)

  pub run_none : (i n : ℕ) (entries : Rows) → AllInOrder tables → i ≡ n → entries ≡ [] → tree_from i ≡ view (tree_from n) entries
  run_none i n entries all same none =
      ap tree_from same ∙ sym (ap (view (tree_from n)) none ∙ view-stack (tree_from n) [] (from_order n all) tt)

  pub run_one : (i n : ℕ) (table entries : Rows) → n ≡ i + 1 → i < length lines → length tables ≡ length lines → table ≡ get_or tables i table
      → is_first_filled (drop i lines) ≡ false → entries ≡ table → tree_from i ≡ view (tree_from n) entries
  run_one i n table entries after within same is stays entries_are =
      unfilled_tree i n table after within same is (sym stays) ∙ ap (view (tree_from n)) (sym entries_are)

  pub run_halves : (i middle n : ℕ) (older newer made : Rows) → AllInOrder tables → tree_from i ≡ view (tree_from middle) older
      → tree_from middle ≡ view (tree_from n) newer
      → ((tree : Rows) → IsInOrder path_cmp tree → view tree made ≡ view (view tree newer) older) → tree_from i ≡ view (tree_from n) made
  run_halves i middle n older newer made all upper lower seen =
      upper ∙ ap (λ t. view t older) lower ∙ sym (seen (tree_from n) (from_order n all))

  pub fold_begun : (n : ℕ) (entries done rest : Rows) → AllInOrder tables → IsInOrder path_cmp entries → done ≡ [] → rest ≡ entries
      → trimmed (tree_from n) entries ≡ stacked done (trimmed (tree_from n) rest)
  fold_begun n entries done rest all order done_is rest_is =
      sym ((λ k. stacked (done_is k) (trimmed (tree_from n) (rest_is k)))
      ∙ none-stacked (trimmed (tree_from n) entries) (IsInOrder-trimmed (tree_from n) entries (from_order n all) order))

  pub fold_step : (i n : ℕ) (whole block done rest here later more : Rows) → AllInOrder tables → IsInOrder path_cmp block
      → IsInOrder path_cmp done → IsInOrder path_cmp rest → tree_from i ≡ view (tree_from n) block
      → whole ≡ stacked done (trimmed (tree_from i) rest) → here ≡ resolved rest block → later ≡ remaining rest block
      → more ≡ stacked done here → whole ≡ stacked more (trimmed (tree_from n) later)
  fold_step i n whole block done rest here later more all b d r seen told here_is later_is more_is =
      trimmed-further whole (tree_from n) block done rest (from_order n all) b d r
      (told ∙ ap (λ t. stacked done (trimmed t rest)) seen)
      ∙ sym ((λ k. stacked ((more_is ∙ ap (stacked done) here_is) k) (trimmed (tree_from n) (later_is k))))

  -- the last of them is filled, or no entries are left
  pub last_is : (i : ℕ) (table entries made : Rows) → i < length lines → length tables ≡ length lines → table ≡ get_or tables i table
      → goes_on entries (drop i lines) ≡ false → made ≡ trimmed table entries → made ≡ trimmed (tree_from i) entries
  last_is i table entries made within same is stop made_is =
      let line = line_at lines i in
      let rows : i < length tables = omega (arith, within, same) in
      let at = one_at lines i line within (line_is lines i within) in
      made_is ∙ stops entries line (drop (i + 1) lines) (sym (ap (goes_on entries) at) ∙ stop) table (view (tree_from (i + 1)) table)
      ∙ sym (λ k. trimmed (tree_of (at k) (one_at tables i table rows is k)) entries)

  pub none_behind : (i : ℕ) (entries none made : Rows) → i ≡ length lines → length tables ≡ length lines → none ≡ []
      → made ≡ trimmed none entries → made ≡ trimmed (tree_from i) entries
  none_behind i entries none made end same none_is made_is =
      made_is ∙ ap (λ t. trimmed t entries)
      (none_is ∙ sym (ap (λ (ls : List Line). tree_of ls (drop i tables)) (drop_all i lines (omega (arith, end)))))

  -- the entries of a run that change the newer tree are the reverse entries
  pub folded_is : (i next : ℕ) (entries made : Rows) → AllInOrder tables → IsInOrder path_cmp entries → tree_from i ≡ view (tree_from next) entries
      → made ≡ trimmed (tree_from next) entries → made ≡ reverse (tree_from i) (tree_from next)
  folded_is i next entries made all order seen made_is =
      made_is ∙ trimmed-view (tree_from next) entries (from_order next all) order ∙ ap (λ t. reverse t (tree_from next)) (sym seen)
