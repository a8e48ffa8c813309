-- A deletion, computed from the part of the backups that it touches.
--     changes-part, taken-part      the changes, and the tables that are removed or replaced, are those of the part alone
use Rattle.std.specs.Prelude.{◌≡◌, ℕ, zero, suc, ◌+◌, ◌-◌, ◌<◌, ◌≤◌, Bool, true, false, not, ◌&&◌, ◌||◌, List, [], ◌∷◌, ◌++◌, length, take, drop, Some, None, nat_lt, if◌then◌else◌}
use Rattle.std.specs.Option.{option_to_list}
use Rattle.std.proofs.Common.{refl, sym, ap, ◌∙◌, subst, arith}
use Rattle.std.proofs.lemmas.Bool.Decides.{nat_tests}
use Rattle.std.proofs.lemmas.List.{append-nil, take_all, length-drop, drop-drop}
use Rattle.backup_rules.specs.declared.lines.Line.{Line}
use Rattle.merge_view.specs.Views.{Rows, view, reverse}
use Rattle.backup_delete.specs.Trees.{tree_of, is_first_filled, is_gone, is_next_gone, needs_fold}
use Rattle.backup_delete.specs.Towers.{one_fold, folds}
use Rattle.backup_delete.specs.Folds.{next_tree, new_table, replaced, change_of, changes, taken_tables}
use Rattle.backup_delete.specs.Windows.{part, any_gone, IsFilledStay, IsWindow}

pub or_left : (a b : Bool) → (a || b) ≡ false → a ≡ false
or_left true b e = e
or_left false b e = refl

pub or_right : (a b : Bool) → (a || b) ≡ false → b ≡ false
or_right true b e = absurd cc
or_right false b e = e

-- the backups' number less one, if they are some
one_less : (n : ℕ) → suc n - 1 ≡ n
one_less n = omega arith

and_none : (b : Bool) → (b && false) ≡ false
and_none true = refl
and_none false = refl

module _ (numbers : List ℕ) where
  -- ---- backups none of which is deleted

  changes_none : (lines : List Line) → changes numbers lines [] ≡ []
  changes_none [] = refl
  changes_none (line ∷ lines) = refl

  taken_none : (lines : List Line) → taken_tables numbers lines [] ≡ []
  taken_none [] = refl
  taken_none (line ∷ lines) = refl

  next_stays : (lines : List Line) → any_gone numbers lines ≡ false → is_next_gone numbers lines ≡ false
  next_stays [] none = refl
  next_stays (line ∷ lines) none = or_left (is_gone numbers line.number) (any_gone numbers lines) none

  -- a table stays if neither its backup nor the next newer one is deleted
  no_fold : (line : Line) (newer : List Line) → is_next_gone numbers newer ≡ false → needs_fold numbers line newer ≡ false
  no_fold line newer stays = ap (λ b. not line.filled && b) stays ∙ and_none (not line.filled)

  no_fold_filled : (line : Line) (newer : List Line) → line.filled ≡ true → needs_fold numbers line newer ≡ false
  no_fold_filled line newer is = ap (λ b. not b && is_next_gone numbers newer) is

  no_change : (line : Line) (table : Rows) (newer : List Line) (tables : List Rows) → is_gone numbers line.number ≡ false
      → needs_fold numbers line newer ≡ false → change_of numbers line table newer tables ≡ None
  no_change line table newer tables stays same =
      ap (λ b. if b then Some (line.number, None) else replaced line.number (new_table numbers line table newer tables)) stays
      ∙ ap (λ b. replaced line.number (if b then Some (reverse (tree_of (line ∷ newer) (table ∷ tables)) (next_tree numbers newer tables)) else None)) same

  one_gone : (line : Line) (table : Rows) (newer : List Line) (tables : List Rows) → is_gone numbers line.number ≡ true
      → change_of numbers line table newer tables ≡ Some (line.number, None)
  one_gone line table newer tables gone =
      ap (λ b. if b then Some (line.number, None) else replaced line.number (new_table numbers line table newer tables)) gone

  one_same : (line : Line) (table : Rows) (newer : List Line) (tables : List Rows) → is_gone numbers line.number ≡ false
      → needs_fold numbers line newer ≡ false
      → changes numbers (line ∷ newer) (table ∷ tables) ≡ changes numbers newer tables
  one_same line table newer tables stays same =
      ap (λ c. changes numbers newer tables ++ option_to_list c) (no_change line table newer tables stays same)
      ∙ append-nil (changes numbers newer tables)

  one_left : (line : Line) (table : Rows) (newer : List Line) (tables : List Rows) → is_gone numbers line.number ≡ false
      → needs_fold numbers line newer ≡ false
      → taken_tables numbers (line ∷ newer) (table ∷ tables) ≡ taken_tables numbers newer tables
  one_left line table newer tables stays same =
      (λ i. if stays i || same i then table ∷ taken_tables numbers newer tables else taken_tables numbers newer tables)

  all_same : (lines : List Line) (tables : List Rows) → any_gone numbers lines ≡ false → changes numbers lines tables ≡ []
  all_same [] tables none = refl
  all_same (line ∷ lines) [] none = refl
  all_same (line ∷ lines) (table ∷ tables) none =
      let rest = or_right (is_gone numbers line.number) (any_gone numbers lines) none in
      one_same line table lines tables (or_left (is_gone numbers line.number) (any_gone numbers lines) none)
      (no_fold line lines (next_stays lines rest))
      ∙ all_same lines tables rest

  all_left : (lines : List Line) (tables : List Rows) → any_gone numbers lines ≡ false → taken_tables numbers lines tables ≡ []
  all_left [] tables none = refl
  all_left (line ∷ lines) [] none = refl
  all_left (line ∷ lines) (table ∷ tables) none =
      let rest = or_right (is_gone numbers line.number) (any_gone numbers lines) none in
      one_left line table lines tables (or_left (is_gone numbers line.number) (any_gone numbers lines) none)
      (no_fold line lines (next_stays lines rest))
      ∙ all_left lines tables rest

  -- ---- without the backups before the part

  -- the last of those before the part is filled, if the part's first one is deleted
  abbrev HasFilledBefore : ℕ → List Line → Type 0
  HasFilledBefore n lines = (m : ℕ) → n ≡ suc m → is_next_gone numbers (drop n lines) ≡ true → is_first_filled (drop m lines) ≡ true

  one_on : (n : ℕ) (line : Line) (lines : List Line) → HasFilledBefore (suc n) (line ∷ lines) → HasFilledBefore n lines
  one_on n line lines filled = λ m e gone. subst (λ k. is_first_filled (drop k (line ∷ lines)) ≡ true) e (filled n refl gone)

  -- a table before the part isn't relative to a deleted backup
  stays_before : (n : ℕ) (line : Line) (lines : List Line) → any_gone numbers (take n lines) ≡ false → HasFilledBefore (suc n) (line ∷ lines)
      → needs_fold numbers line lines ≡ false
  stays_before zero line lines none filled = step (is_next_gone numbers lines) refl
    where
      step : (b : Bool) → is_next_gone numbers lines ≡ b → needs_fold numbers line lines ≡ false
      step true e = no_fold_filled line lines (filled zero refl e)
      step false e = no_fold line lines e
  stays_before (suc n) line [] none filled = no_fold line [] refl
  stays_before (suc n) line (next ∷ lines) none filled =
      no_fold line (next ∷ lines) (or_left (is_gone numbers next.number) (any_gone numbers (take n lines)) none)

  changes_behind : (n : ℕ) (lines : List Line) (tables : List Rows) → any_gone numbers (take n lines) ≡ false
      → HasFilledBefore n lines → changes numbers lines tables ≡ changes numbers (drop n lines) (drop n tables)
  changes_behind zero lines tables none filled = refl
  changes_behind (suc n) [] tables none filled = refl
  changes_behind (suc n) (line ∷ lines) [] none filled = sym (changes_none (drop n lines))
  changes_behind (suc n) (line ∷ lines) (table ∷ tables) none filled =
      let rest = or_right (is_gone numbers line.number) (any_gone numbers (take n lines)) none in
      one_same line table lines tables (or_left (is_gone numbers line.number) (any_gone numbers (take n lines)) none)
      (stays_before n line lines rest filled)
      ∙ changes_behind n lines tables rest (one_on n line lines filled)

  taken_behind : (n : ℕ) (lines : List Line) (tables : List Rows) → any_gone numbers (take n lines) ≡ false
      → HasFilledBefore n lines → taken_tables numbers lines tables ≡ taken_tables numbers (drop n lines) (drop n tables)
  taken_behind zero lines tables none filled = refl
  taken_behind (suc n) [] tables none filled = refl
  taken_behind (suc n) (line ∷ lines) [] none filled = sym (taken_none (drop n lines))
  taken_behind (suc n) (line ∷ lines) (table ∷ tables) none filled =
      let rest = or_right (is_gone numbers line.number) (any_gone numbers (take n lines)) none in
      one_left line table lines tables (or_left (is_gone numbers line.number) (any_gone numbers (take n lines)) none)
      (stays_before n line lines rest filled)
      ∙ taken_behind n lines tables rest (one_on n line lines filled)

  -- ---- without those behind it, from a filled one on that stays

  tree_before : (n : ℕ) (lines : List Line) (tables : List Rows) → is_first_filled (drop n lines) ≡ true
      → tree_of lines tables ≡ tree_of (take (suc n) lines) (take (suc n) tables)
  tree_before n [] tables is = refl
  tree_before n (line ∷ lines) [] is = refl
  tree_before zero (line ∷ lines) (table ∷ tables) is =
      (λ i. if is i then table else view (tree_of lines tables) table)
      ∙ sym (λ i. if is i then table else view (tree_of [] []) table)
  tree_before (suc n) (line ∷ lines) (table ∷ tables) is =
      ap (λ t. if line.filled then table else view t table) (tree_before n lines tables is)

  next_tree_before : (n : ℕ) (lines : List Line) (tables : List Rows) → IsFilledStay numbers (drop n lines)
      → next_tree numbers lines tables ≡ next_tree numbers (take (suc n) lines) (take (suc n) tables)
  next_tree_before n [] tables is = refl
  next_tree_before n (line ∷ lines) [] is = refl
  next_tree_before zero (line ∷ lines) (table ∷ tables) is =
      (λ i. if is.stays i then next_tree numbers lines tables else tree_of (line ∷ lines) (table ∷ tables))
      ∙ tree_before zero (line ∷ lines) (table ∷ tables) is.filled
      ∙ sym (λ i. if is.stays i then next_tree numbers [] [] else tree_of (line ∷ []) (table ∷ []))
  next_tree_before (suc n) (line ∷ lines) (table ∷ tables) is =
      (λ i. if is_gone numbers line.number then next_tree_before n lines tables is i
      else tree_before (suc n) (line ∷ lines) (table ∷ tables) is.filled i)

  next_gone_before : (n : ℕ) (lines : List Line) → is_next_gone numbers lines ≡ is_next_gone numbers (take (suc n) lines)
  next_gone_before n [] = refl
  next_gone_before n (line ∷ lines) = refl

  change_before : (n : ℕ) (line : Line) (table : Rows) (lines : List Line) (tables : List Rows) → IsFilledStay numbers (drop n lines)
      → change_of numbers line table lines tables ≡ change_of numbers line table (take (suc n) lines) (take (suc n) tables)
  change_before n line table lines tables is =
      (λ i. if is_gone numbers line.number then Some (line.number, None)
      else replaced line.number (if not line.filled && next_gone_before n lines i
      then Some (reverse (tree_before (suc n) (line ∷ lines) (table ∷ tables) is.filled i) (next_tree_before n lines tables is i)) else None))

  changes_before : (n : ℕ) (lines : List Line) (tables : List Rows) → any_gone numbers (drop (suc n) lines) ≡ false
      → IsFilledStay numbers (drop n lines) → changes numbers lines tables ≡ changes numbers (take (suc n) lines) (take (suc n) tables)
  changes_before n [] tables none is = refl
  changes_before n (line ∷ lines) [] none is = refl
  changes_before zero (line ∷ lines) (table ∷ tables) none is =
      one_same line table lines tables is.stays (no_fold_filled line lines is.filled)
      ∙ all_same lines tables none
      ∙ sym (one_same line table [] [] is.stays (no_fold_filled line [] is.filled))
  changes_before (suc n) (line ∷ lines) (table ∷ tables) none is =
      (λ i. changes_before n lines tables none is i ++ option_to_list (change_before n line table lines tables is i))

  taken_before : (n : ℕ) (lines : List Line) (tables : List Rows) → any_gone numbers (drop (suc n) lines) ≡ false
      → IsFilledStay numbers (drop n lines)
      → taken_tables numbers lines tables ≡ taken_tables numbers (take (suc n) lines) (take (suc n) tables)
  taken_before n [] tables none is = refl
  taken_before n (line ∷ lines) [] none is = refl
  taken_before zero (line ∷ lines) (table ∷ tables) none is =
      one_left line table lines tables is.stays (no_fold_filled line lines is.filled)
      ∙ all_left lines tables none
      ∙ sym (one_left line table [] [] is.stays (no_fold_filled line [] is.filled))
  taken_before (suc n) (line ∷ lines) (table ∷ tables) none is =
      (λ i. if is_gone numbers line.number || (not line.filled && next_gone_before n lines i)
      then table ∷ taken_before n lines tables none is i else taken_before n lines tables none is i)

  -- ---- without those behind it, if none of those before these gets a new table

  no_more : (n : ℕ) (line : Line) (lines : List Line) → folds numbers (take (suc n) (line ∷ lines)) ≡ 0 → folds numbers (take n lines) ≡ 0
  no_more n line lines none = omega (arith, none)

  part_stays : (n : ℕ) (line : Line) (lines : List Line) → folds numbers (take (suc n) (line ∷ lines)) ≡ 0 → is_gone numbers line.number ≡ false
      → needs_fold numbers line (take n lines) ≡ false
  part_stays n line lines none stays = step (needs_fold numbers line (take n lines)) refl
    where
      one : one_fold numbers line (take n lines) ≡ 0
      one = omega (arith, none)

      step : (b : Bool) → needs_fold numbers line (take n lines) ≡ b → b ≡ false
      step true e = absurd (one_more ((λ i. if stays i then 0 else (if e i then 1 else 0)) ∙ refl) one)
        where
          one_more : one_fold numbers line (take n lines) ≡ 1 → one_fold numbers line (take n lines) ≡ 0 → ⊥
          one_more some none = omega (arith, some, none)
      step false e = refl

  whole_stays : (n : ℕ) (line : Line) (lines : List Line) → any_gone numbers (drop n lines) ≡ false → needs_fold numbers line (take n lines) ≡ false
      → needs_fold numbers line lines ≡ false
  whole_stays zero line lines none stays = no_fold line lines (next_stays lines none)
  whole_stays (suc n) line lines none stays = ap (λ b. not line.filled && b) (next_gone_before n lines) ∙ stays

  changes_unfolded : (n : ℕ) (lines : List Line) (tables : List Rows) → folds numbers (take n lines) ≡ 0
      → any_gone numbers (drop n lines) ≡ false → changes numbers lines tables ≡ changes numbers (take n lines) (take n tables)
  changes_unfolded zero lines tables none rest = all_same lines tables rest
  changes_unfolded (suc n) [] tables none rest = refl
  changes_unfolded (suc n) (line ∷ lines) [] none rest = refl
  changes_unfolded (suc n) (line ∷ lines) (table ∷ tables) none rest =
      step (is_gone numbers line.number) refl (changes_unfolded n lines tables (no_more n line lines none) rest)
    where
      step : (b : Bool) → is_gone numbers line.number ≡ b → changes numbers lines tables ≡ changes numbers (take n lines) (take n tables)
          → changes numbers (line ∷ lines) (table ∷ tables) ≡ changes numbers (line ∷ take n lines) (table ∷ take n tables)
      step true e same =
          (λ i. same i ++ option_to_list (one_gone line table lines tables e i))
          ∙ sym (ap (λ c. changes numbers (take n lines) (take n tables) ++ option_to_list c) (one_gone line table (take n lines) (take n tables) e))
      step false e same =
          let stays = part_stays n line lines none e in
          one_same line table lines tables e (whole_stays n line lines rest stays) ∙ same
          ∙ sym (one_same line table (take n lines) (take n tables) e stays)

  taken_unfolded : (n : ℕ) (lines : List Line) (tables : List Rows) → folds numbers (take n lines) ≡ 0
      → any_gone numbers (drop n lines) ≡ false → taken_tables numbers lines tables ≡ taken_tables numbers (take n lines) (take n tables)
  taken_unfolded zero lines tables none rest = all_left lines tables rest
  taken_unfolded (suc n) [] tables none rest = refl
  taken_unfolded (suc n) (line ∷ lines) [] none rest = refl
  taken_unfolded (suc n) (line ∷ lines) (table ∷ tables) none rest =
      step (is_gone numbers line.number) refl (taken_unfolded n lines tables (no_more n line lines none) rest)
    where
      step : (b : Bool) → is_gone numbers line.number ≡ b → taken_tables numbers lines tables ≡ taken_tables numbers (take n lines) (take n tables)
          → taken_tables numbers (line ∷ lines) (table ∷ tables) ≡ taken_tables numbers (line ∷ take n lines) (table ∷ take n tables)
      step true e same =
          (λ i. if e i || needs_fold numbers line lines then table ∷ same i else taken_tables numbers lines tables)
          ∙ sym (λ i. if e i || needs_fold numbers line (take n lines) then table ∷ taken_tables numbers (take n lines) (take n tables)
          else taken_tables numbers (take n lines) (take n tables))
      step false e same =
          let stays = part_stays n line lines none e in
          one_left line table lines tables e (whole_stays n line lines rest stays) ∙ same
          ∙ sym (one_left line table (take n lines) (take n tables) e stays)

  -- if one of them gets a new table there is one
  not_none : (n : ℕ) (lines : List Line) → 0 < folds numbers (take n lines) → 0 < n
  not_none zero lines some = some
  not_none (suc n) lines some = omega arith

  -- ---- both

  -- what is told of backups from the first one on, and up to another, is told of the part
  module _ {X : Type 0} (f : List Line → List Rows → X)
      (behind : (n : ℕ) (lines : List Line) (tables : List Rows) → any_gone numbers (take n lines) ≡ false
      → HasFilledBefore n lines → f lines tables ≡ f (drop n lines) (drop n tables))
      (before : (n : ℕ) (lines : List Line) (tables : List Rows) → any_gone numbers (drop (suc n) lines) ≡ false
      → IsFilledStay numbers (drop n lines) → f lines tables ≡ f (take (suc n) lines) (take (suc n) tables))
      (unfolded : (n : ℕ) (lines : List Line) (tables : List Rows) → folds numbers (take n lines) ≡ 0
      → any_gone numbers (drop n lines) ≡ false → f lines tables ≡ f (take n lines) (take n tables)) where
    cut_at : (n : ℕ) (lines : List Line) (tables : List Rows) → any_gone numbers (drop n lines) ≡ false → 0 < n
        → IsFilledStay numbers (drop (n - 1) lines) → f lines tables ≡ f (take n lines) (take n tables)
    cut_at zero lines tables none some is = absurd (omega (arith, some))
    cut_at (suc n) lines tables none some is =
        before n lines tables none (subst (λ m. IsFilledStay numbers (drop m lines)) (one_less n) is)

    up_to_end : (n : ℕ) (lines : List Line) (tables : List Rows) → length tables ≡ length lines
        → any_gone numbers (drop n lines) ≡ false
        → (n < length lines → 0 < folds numbers (take n lines) → IsFilledStay numbers (drop (n - 1) lines))
        → f lines tables ≡ f (take n lines) (take n tables)
    up_to_end n lines tables same none is = step (nat_lt n (length lines)) refl
      where
        cut : n < length lines → (count : ℕ) → folds numbers (take n lines) ≡ count → f lines tables ≡ f (take n lines) (take n tables)
        cut less zero e = unfolded n lines tables e none
        cut less (suc count) e =
            let some : 0 < folds numbers (take n lines) = omega (arith, e) in
            cut_at n lines tables none (not_none n lines some) (is less some)

        step : (b : Bool) → nat_lt n (length lines) ≡ b → f lines tables ≡ f (take n lines) (take n tables)
        step true e =
            let less : n < length lines = grind (arith, nat_tests, e) in
            cut less (folds numbers (take n lines)) refl
        step false e =
            let whole : length lines ≤ n = grind (arith, nat_tests, e) in
            let rows : length tables ≤ n = omega (arith, whole, same) in
            sym (λ i. f (take_all n lines whole i) (take_all n tables rows i))

    told_by_part : (lines : List Line) (tables : List Rows) (first end : ℕ) → IsWindow numbers lines first end
        → length tables ≡ length lines → f lines tables ≡ f (part first end lines) (part first end tables)
    told_by_part lines tables first end w same =
        behind first lines tables w.before (λ m e gone. subst (λ k. is_first_filled (drop k lines) ≡ true) (less_one m e) (w.oldest (above m e) gone))
        ∙ up_to_end (end - first) (drop first lines) (drop first tables)
        (length-drop first tables ∙ ap (λ n. n - first) same ∙ sym (length-drop first lines))
        (subst (λ ls. any_gone numbers ls ≡ false) (sym (at_end first end lines w.rises)) w.behind)
        (λ less some. subst (IsFilledStay numbers) (sym (at_last first end lines (risen first end (not_none (end - first) (drop first lines) some))))
        (w.newest (shorter less) some))
      where
        shorter : end - first < length (drop first lines) → end < length lines
        shorter less = let short = length-drop first lines in omega (arith, less, short, w.rises)

        less_one : (m : ℕ) → first ≡ suc m → first - 1 ≡ m
        less_one m e = omega (arith, e)

        above : (m : ℕ) → first ≡ suc m → 0 < first
        above m e = omega (arith, e)

        risen : (first end : ℕ) → 0 < end - first → first < end
        risen first end more = omega (arith, more)

        at_end : (first end : ℕ) (lines : List Line) → first ≤ end → drop (end - first) (drop first lines) ≡ drop end lines
        at_end first end lines less =
            let e : first + (end - first) ≡ end = omega (arith, less) in
            drop-drop (end - first) first lines ∙ ap (λ n. drop n lines) e

        at_last : (first end : ℕ) (lines : List Line) → first < end
            → drop (end - first - 1) (drop first lines) ≡ drop (end - 1) lines
        at_last first end lines less =
            let e : first + (end - first - 1) ≡ end - 1 = omega (arith, less) in
            drop-drop (end - first - 1) first lines ∙ ap (λ n. drop n lines) e

  -- what becomes of the tables is told by the part alone
  pub changes-part : (lines : List Line) (tables : List Rows) (first end : ℕ) → IsWindow numbers lines first end
      → length tables ≡ length lines → changes numbers lines tables ≡ changes numbers (part first end lines) (part first end tables)
  changes-part = told_by_part (changes numbers) changes_behind changes_before changes_unfolded

  -- and so are the tables that are removed or replaced
  pub taken-part : (lines : List Line) (tables : List Rows) (first end : ℕ) → IsWindow numbers lines first end
      → length tables ≡ length lines
      → taken_tables numbers lines tables ≡ taken_tables numbers (part first end lines) (part first end tables)
  taken-part = told_by_part (taken_tables numbers) taken_behind taken_before taken_unfolded
