-- One backup more, on the way from the newest to the oldest.
--     one_at      the items from an index on are the one there and those behind it
--     change_step, taken_step      what the backup at an index adds
use Rattle.std.proofs.Common.{◌≡◌, ◌+◌, ◌-◌, ◌<◌, ℕ, Bool, true, false, ◌||◌, List, [], ◌∷◌, ◌++◌, Option, Some, None, length, take, drop, slice_set, get_or, refl, sym, ap, ◌∙◌, if◌then◌else◌, add-one, arith}
use Rattle.std.specs.Option.{option_to_list}
use Rattle.std.specs.List.{cons_option}
use Rattle.std.proofs.Math.Seq.{drop-cons}
use Rattle.std.proofs.lemmas.List.{get_or_default, take_more}
use Rattle.disk_trait.specs.declared.ids.PoolId.{PoolId}
use Rattle.backup_rules.specs.declared.lines.Kind.TheVariants.{Full}
use Rattle.backup_rules.specs.declared.lines.Line.{Line}
use Rattle.merge_view.specs.Views.{Rows, reverse}
use Rattle.stored_trees.specs.Occurrences.{occurrences}
use Rattle.ref_counts.specs.Numbers.{total, capped}
use Rattle.backup_delete.specs.Trees.{tree_of, is_gone, needs_fold}
use Rattle.backup_delete.specs.Folds.{filled, last_filled, next_tree, new_table, Change, replaced, change_of, changes, added_tables, taken_tables}
use Rattle.backup_delete.specs.Walks.{IsNext}
use Rattle.backup_delete.specs.CountedLaws.{added_total}

pub one_at : {A : Type 0} (xs : List A) (i : ℕ) (x : A) → i < length xs → x ≡ get_or xs i x → drop i xs ≡ x ∷ drop (i + 1) xs
one_at xs i x within is = drop-cons xs i x within ∙ (λ k. sym is k ∷ drop (sym (add-one i) k) xs)

-- a line is read with a default
abbrev pub no_line : Line
no_line = record { number = 0; start = 0; end = 0; kind = Full; filled = false; keep = false }

abbrev pub line_at : List Line → ℕ → Line
line_at lines i = get_or lines i no_line

pub line_is : (lines : List Line) (i : ℕ) → i < length lines → line_at lines i ≡ get_or lines i (line_at lines i)
line_is lines i within = get_or_default lines i no_line (line_at lines i) within

-- ---- changes

module _ (numbers : List ℕ) (lines : List Line) (tables : List Rows) (i : ℕ) (line : Line) (within : i < length lines) (same : length tables ≡ length lines) (found : line ≡ get_or lines i line) where
  abbrev pub table : Rows
  table = get_or tables i []

  lines_at : drop i lines ≡ line ∷ drop (i + 1) lines
  lines_at = one_at lines i line within found

  tables_at : drop i tables ≡ table ∷ drop (i + 1) tables
  tables_at = let rows : i < length tables = omega (arith, within, same) in one_at tables i (get_or tables i []) rows (get_or_default tables i [] (get_or tables i []) rows)

  pub change_step : (change : Option Change) → change ≡ change_of numbers line table (drop (i + 1) lines) (drop (i + 1) tables)
      → changes numbers (drop i lines) (drop i tables) ≡ changes numbers (drop (i + 1) lines) (drop (i + 1) tables) ++ option_to_list change
  change_step change is =
      (λ k. changes numbers (lines_at k) (tables_at k)) ∙ ap (λ c. changes numbers (drop (i + 1) lines) (drop (i + 1) tables) ++ option_to_list c) (sym is)

  -- a deleted backup
  pub gone_change : true ≡ is_gone numbers line.number → Some (line.number, None) ≡ change_of numbers line table (drop (i + 1) lines) (drop (i + 1) tables)
  gone_change is = ap (λ b. if b then Some (line.number, None) else replaced line.number (new_table numbers line table (drop (i + 1) lines) (drop (i + 1) tables))) is

  -- one whose table stays
  pub same_change : false ≡ is_gone numbers line.number → false ≡ needs_fold numbers line (drop (i + 1) lines) → None ≡ change_of numbers line table (drop (i + 1) lines) (drop (i + 1) tables)
  same_change stays is =
      ap (λ b. replaced line.number (if b then Some (reverse (tree_of (line ∷ drop (i + 1) lines) (table ∷ drop (i + 1) tables)) (next_tree numbers (drop (i + 1) lines) (drop (i + 1) tables))) else None)) is
      ∙ ap (λ b. if b then Some (line.number, None) else replaced line.number (new_table numbers line table (drop (i + 1) lines) (drop (i + 1) tables))) stays

  -- one with a new table
  pub new_change : (tree newer made : Rows) → false ≡ is_gone numbers line.number → true ≡ needs_fold numbers line (drop (i + 1) lines)
      → tree ≡ tree_of (drop i lines) (drop i tables) → newer ≡ next_tree numbers (drop (i + 1) lines) (drop (i + 1) tables) → made ≡ reverse tree newer
      → Some (line.number, Some made) ≡ change_of numbers line table (drop (i + 1) lines) (drop (i + 1) tables)
  new_change tree newer made stays is tree_is newer_is made_is =
      ap (λ t. Some (line.number, Some t)) (made_is ∙ (λ k. reverse ((tree_is ∙ (λ j. tree_of (lines_at j) (tables_at j))) k) (newer_is k)))
      ∙ ap (λ b. replaced line.number (if b then Some (reverse (tree_of (line ∷ drop (i + 1) lines) (table ∷ drop (i + 1) tables)) (next_tree numbers (drop (i + 1) lines) (drop (i + 1) tables))) else None)) is
      ∙ ap (λ b. if b then Some (line.number, None) else replaced line.number (new_table numbers line table (drop (i + 1) lines) (drop (i + 1) tables))) stays

  -- the next backup that stays, from a deleted one on and from one that stays
  next_gone : true ≡ is_gone numbers line.number → next_tree numbers (drop i lines) (drop i tables) ≡ next_tree numbers (drop (i + 1) lines) (drop (i + 1) tables)
  next_gone is =
      (λ k. next_tree numbers (lines_at k) (tables_at k))
      ∙ ap (λ b. if b then next_tree numbers (drop (i + 1) lines) (drop (i + 1) tables) else tree_of (line ∷ drop (i + 1) lines) (table ∷ drop (i + 1) tables)) (sym is)

  next_here : false ≡ is_gone numbers line.number → next_tree numbers (drop i lines) (drop i tables) ≡ tree_of (drop i lines) (drop i tables)
  next_here is =
      (λ k. next_tree numbers (lines_at k) (tables_at k))
      ∙ ap (λ b. if b then next_tree numbers (drop (i + 1) lines) (drop (i + 1) tables) else tree_of (line ∷ drop (i + 1) lines) (table ∷ drop (i + 1) tables)) (sym is)
      ∙ sym (λ k. tree_of (lines_at k) (tables_at k))

  pub walk_gone : (next : ℕ) → IsNext numbers lines tables next (i + 1) → true ≡ is_gone numbers line.number → IsNext numbers lines tables next i
  walk_gone next w is = record { within = omega (arith, w.within); end = w.end; tree = next_gone is ∙ w.tree }

  pub walk_here : (next : ℕ) → false ≡ is_gone numbers line.number → next ≡ i → IsNext numbers lines tables next i
  walk_here next is here = record {
    within = omega (arith, here);
    end = omega (arith, within, here);
    tree = next_here is ∙ ap (λ n. tree_of (drop n lines) (drop n tables)) (sym here);
  }

-- ---- counts

sum_turns : (a b : ℕ) → a + b ≡ b + a
sum_turns a b = omega arith

pub taken_step : (id : PoolId) (numbers : List ℕ) (lines : List Line) (tables : List Rows) (i n : ℕ) (line : Line) (table : Rows) → n ≡ i + 1 → i < length lines → length tables ≡ length lines
    → line ≡ get_or lines i line → table ≡ get_or tables i table
    → (if is_gone numbers line.number || needs_fold numbers line (drop n lines) then total id (taken_tables numbers (drop n lines) (drop n tables)) + occurrences id table
    else total id (taken_tables numbers (drop n lines) (drop n tables)))
    ≡ total id (taken_tables numbers (drop i lines) (drop i tables))
taken_step id numbers lines tables i n line table next within same found table_is =
    let rows : i < length tables = omega (arith, within, same) in
    ap (λ m. if is_gone numbers line.number || needs_fold numbers line (drop m lines) then total id (taken_tables numbers (drop m lines) (drop m tables)) + occurrences id table else total id (taken_tables numbers (drop m lines) (drop m tables))) next
    ∙ step (is_gone numbers line.number || needs_fold numbers line (drop (i + 1) lines))
    ∙ sym (λ k. total id (taken_tables numbers (one_at lines i line within found k) (one_at tables i table rows table_is k)))
  where
    step : (b : Bool)
        → (if b then total id (taken_tables numbers (drop (i + 1) lines) (drop (i + 1) tables)) + occurrences id table else total id (taken_tables numbers (drop (i + 1) lines) (drop (i + 1) tables)))
        ≡ total id (if b then table ∷ taken_tables numbers (drop (i + 1) lines) (drop (i + 1) tables) else taken_tables numbers (drop (i + 1) lines) (drop (i + 1) tables))
    step true = sum_turns _ _
    step false = refl

pub one_change : (id : PoolId) (all : List Change) (i : ℕ) (change : Change) → i < length all → change ≡ get_or all i change
    → capped (total id (added_tables (take i all)) + total id (added_tables (change ∷ []))) ≡ capped (total id (added_tables (take (i + 1) all)))
one_change id all i change within is =
    let more : take (i + 1) all ≡ take i all ++ change ∷ [] = take_more all i change within ∙ ap (λ c. take i all ++ c ∷ []) (sym is) in
    ap capped (sym (added_total id (take i all) (change ∷ [])) ∙ ap (λ l. total id (added_tables l)) (sym more))

nothing_more : (n a : ℕ) → n + a ≡ n + (a + 0)
nothing_more n a = omega arith

pub one_added : (id : PoolId) (n : ℕ) (table : Rows) (found : Option Rows) → Some table ≡ found → capped (n + occurrences id table) ≡ capped (n + total id (cons_option found []))
one_added id n table found is = ap capped (nothing_more n (occurrences id table)) ∙ ap (λ o. capped (n + total id (cons_option o []))) is

-- ---- lines

set_last : (line : Line) (lines : List Line) → slice_set (line ∷ lines) (length lines) (filled (line_at (line ∷ lines) (length lines))) ≡ last_filled (line ∷ lines)
set_last line [] = refl
set_last line (next ∷ lines) = ap (λ rest. line ∷ rest) (set_last next lines)

pub last_set : (lines : List Line) (n : ℕ) → n ≡ length lines → (lines ≡ [] → ⊥) → slice_set lines (n - 1) (filled (line_at lines (n - 1))) ≡ last_filled lines
last_set [] n e some = absurd (some refl)
last_set (line ∷ lines) n e some =
    let last : n - 1 ≡ length lines = omega (arith, e) in
    ap (λ m. slice_set (line ∷ lines) m (filled (line_at (line ∷ lines) m))) last ∙ set_last line lines
