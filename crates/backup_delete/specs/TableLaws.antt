-- The changes by numbers, and the lines that are left.
--     changed-left      the tables after the changes are those of the lines that are left
--     left-sound      the lines that are left keep the rules of a host's lines
use Rattle.std.specs.Prelude.{◌≡◌, ℕ, ◌+◌, ◌≤◌, ◌<◌, ◌==◌, Bool, true, false, List, [], ◌∷◌, ◌++◌, Option, Some, None, if◌then◌else◌}
use Rattle.std.specs.Option.{unwrap_or, option_to_list}
use Rattle.std.proofs.Common.{refl, sym, ap, ◌∙◌, arith}
use Rattle.std.proofs.lemmas.Bool.{false≢true}
use Rattle.std.proofs.lemmas.Bool.Decides.{nat_tests}
use borrow.Author.Tests.{eqb-true}
use Rattle.backup_rules.specs.declared.lines.Line.{Line}
use Rattle.backup_index.specs.Lines.{LinesFrom, IsSound}
use Rattle.merge_view.specs.Views.{Rows, reverse}
use Rattle.backup_delete.specs.Trees.{tree_of, is_gone, are_gone, needs_fold}
use Rattle.backup_delete.specs.LineLaws.{none_left}
use Rattle.backup_delete.specs.Folds.{filled, left_lines, next_tree, new_table, folded_tables, Change, replaced, change_of, changes, change_at, changed, table_at}

-- no line has the number
abbrev IsAbsent : ℕ → List Line → Type 0
IsAbsent number [] = Unit {0}
IsAbsent number (line ∷ lines) = (line.number == number ≡ false) × IsAbsent number lines

apart : (low m n : ℕ) → low ≤ m → n < low → (m == n) ≡ false
apart low m n within below = grind (arith, nat_tests, within, below)

later : (low m n : ℕ) → low ≤ m → n < low → n < m + 1
later low m n within below = omega (arith, within, below)

-- lines from a number on have none below it
absent : (number low next : ℕ) (lines : List Line) → number < low → LinesFrom low next lines → IsAbsent number lines
absent number low next [] below from = tt
absent number low next (line ∷ lines) below from =
    (apart low line.number number from.0.rising below, absent number (line.number + 1) next lines (later low line.number number from.0.rising below) from.1)

-- ---- changes by numbers

change_at-append : (xs ys : List Change) (number : ℕ) (found : Option (Option Rows)) → change_at xs number ≡ None → change_at ys number ≡ found
    → change_at (xs ++ ys) number ≡ found
change_at-append [] ys number found none is = is
change_at-append (x ∷ xs) ys number found none is = step (x.0 == number) none (change_at-append xs ys number found)
  where
    step : (b : Bool) → (if b then Some x.1 else change_at xs number) ≡ None
        → (change_at xs number ≡ None → change_at ys number ≡ found → change_at (xs ++ ys) number ≡ found)
        → (if b then Some x.1 else change_at (xs ++ ys) number) ≡ found
    step true none rest = cc
    step false none rest = rest none is

-- a change of another number
change_at-other : (xs ys : List Change) (number : ℕ) → change_at ys number ≡ None → change_at (xs ++ ys) number ≡ change_at xs number
change_at-other [] ys number none = none
change_at-other (x ∷ xs) ys number none = ap (λ c. if x.0 == number then Some x.1 else c) (change_at-other xs ys number none)

-- what becomes of one backup's table, by two tests
one-here : (gone fold : Bool) (number asked : ℕ) (new table : Rows) → (number == asked) ≡ true
    → changed (change_at (option_to_list (if gone then Some (number, None) else replaced number (if fold then Some new else None))) asked) (Some table)
    ≡ (if gone then None else Some (unwrap_or (if fold then Some new else None) table))
one-here true fold number asked new table e = ap (λ t. changed (if t then Some None else None) (Some table)) e
one-here false true number asked new table e = ap (λ t. changed (if t then Some (Some new) else None) (Some table)) e
one-here false false number asked new table e = refl

one-other : (gone fold : Bool) (number asked : ℕ) (new : Rows) → (number == asked) ≡ false
    → change_at (option_to_list (if gone then Some (number, None) else replaced number (if fold then Some new else None))) asked ≡ None
one-other true fold number asked new e = ap (λ t. if t then Some None else None) e
one-other false true number asked new e = ap (λ t. if t then Some (Some new) else None) e
one-other false false number asked new e = refl

module _ (numbers : List ℕ) where
  absent_changes : (number : ℕ) (lines : List Line) (tables : List Rows) → IsAbsent number lines → change_at (changes numbers lines tables) number ≡ None
  absent_changes number [] tables none = refl
  absent_changes number (line ∷ lines) [] none = refl
  absent_changes number (line ∷ lines) (table ∷ tables) none =
      change_at-append (changes numbers lines tables) (option_to_list (change_of numbers line table lines tables)) number None (absent_changes number lines tables none.1)
      (one-other (is_gone numbers line.number) (needs_fold numbers line lines) line.number number
      (reverse (tree_of (line ∷ lines) (table ∷ tables)) (next_tree numbers lines tables)) none.0)

  absent_left : (number : ℕ) (lines : List Line) (tables : List Rows) → IsAbsent number lines
      → table_at (left_lines numbers lines) (folded_tables numbers lines tables) number ≡ None
  absent_left number [] tables none = refl
  absent_left number (line ∷ lines) [] none = nothing _
    where
      nothing : (left : List Line) → table_at left [] number ≡ None
      nothing [] = refl
      nothing (x ∷ xs) = refl
  absent_left number (line ∷ lines) (table ∷ tables) none = step (is_gone numbers line.number) (are_gone numbers lines) (absent_left number lines tables none.1)
    where
      step : (b last : Bool) → table_at (left_lines numbers lines) (folded_tables numbers lines tables) number ≡ None
          → table_at (if b then left_lines numbers lines else (if last then filled line else line) ∷ left_lines numbers lines)
          (if b then folded_tables numbers lines tables else unwrap_or (new_table numbers line table lines tables) table ∷ folded_tables numbers lines tables) number ≡ None
      step true last rest = rest
      step false true rest = ap (λ t. if t then Some (unwrap_or (new_table numbers line table lines tables) table) else table_at (left_lines numbers lines) (folded_tables numbers lines tables) number) none.0 ∙ rest
      step false false rest = ap (λ t. if t then Some (unwrap_or (new_table numbers line table lines tables) table) else table_at (left_lines numbers lines) (folded_tables numbers lines tables) number) none.0 ∙ rest

  changed-from : (number low next : ℕ) (lines : List Line) (tables : List Rows) → LinesFrom low next lines
      → changed (change_at (changes numbers lines tables) number) (table_at lines tables number)
      ≡ table_at (left_lines numbers lines) (folded_tables numbers lines tables) number
  changed-from number low next [] tables from = refl
  changed-from number low next (line ∷ lines) [] from = nothing _
    where
      nothing : (left : List Line) → None ≡ table_at left [] number
      nothing [] = refl
      nothing (x ∷ xs) = refl
  changed-from number low next (line ∷ lines) (table ∷ tables) from =
      at (line.number == number) refl (changed-from number (line.number + 1) next lines tables from.1)
    where
      new : Rows
      new = reverse (tree_of (line ∷ lines) (table ∷ tables)) (next_tree numbers lines tables)

      here : Rows
      here = unwrap_or (new_table numbers line table lines tables) table

      rest : Option Rows
      rest = table_at (left_lines numbers lines) (folded_tables numbers lines tables) number

      one : List Change
      one = option_to_list (change_of numbers line table lines tables)

      -- what the lines that are left have at the number
      left : (gone last t : Bool) → (line.number == number) ≡ t
          → table_at (if gone then left_lines numbers lines else (if last then filled line else line) ∷ left_lines numbers lines)
          (if gone then folded_tables numbers lines tables else here ∷ folded_tables numbers lines tables) number
          ≡ (if gone then rest else (if t then Some here else rest))
      left true last t e = refl
      left false true t e = ap (λ b. if b then Some here else rest) e
      left false false t e = ap (λ b. if b then Some here else rest) e

      found : (line.number == number) ≡ true → rest ≡ None
      found e = absent_left number lines tables (absent number (line.number + 1) next lines (below e) from.1)
        where
          below : (line.number == number) ≡ true → number < line.number + 1
          below e = let same = eqb-true line.number number e in omega (arith, same)

      gone_or : (gone : Bool) → rest ≡ None → (if gone then None else Some here) ≡ (if gone then rest else Some here)
      gone_or true none = sym none
      gone_or false none = refl

      same_or : (gone : Bool) → rest ≡ (if gone then rest else rest)
      same_or true = refl
      same_or false = refl

      at : (t : Bool) → (line.number == number) ≡ t
          → changed (change_at (changes numbers lines tables) number) (table_at lines tables number) ≡ rest
          → changed (change_at (changes numbers lines tables ++ one) number) (if line.number == number then Some table else table_at lines tables number)
          ≡ table_at (left_lines numbers (line ∷ lines)) (folded_tables numbers (line ∷ lines) (table ∷ tables)) number
      at true e ih =
          (λ i. changed (change_at-append (changes numbers lines tables) one number (change_at one number)
          (absent_changes number lines tables (absent number (line.number + 1) next lines (below e) from.1)) refl i) (if e i then Some table else table_at lines tables number))
          ∙ one-here (is_gone numbers line.number) (needs_fold numbers line lines) line.number number new table e
          ∙ gone_or (is_gone numbers line.number) (found e)
          ∙ sym (left (is_gone numbers line.number) (are_gone numbers lines) true e)
        where
          below : (line.number == number) ≡ true → number < line.number + 1
          below e = let same = eqb-true line.number number e in omega (arith, same)
      at false e ih =
          (λ i. changed (change_at-other (changes numbers lines tables) one number (one-other (is_gone numbers line.number) (needs_fold numbers line lines) line.number number new e) i)
          (if e i then Some table else table_at lines tables number))
          ∙ ih ∙ same_or (is_gone numbers line.number)
          ∙ sym (left (is_gone numbers line.number) (are_gone numbers lines) false e)

  -- the tables after the changes are those of the lines that are left
  pub changed-left : (number next : ℕ) (lines : List Line) (tables : List Rows) → IsSound next lines
      → changed (change_at (changes numbers lines tables) number) (table_at lines tables number)
      ≡ table_at (left_lines numbers lines) (folded_tables numbers lines tables) number
  changed-left number next lines tables sound = changed-from number 0 next lines tables sound.in_turn

  -- ---- lines

  lower : (low low' next : ℕ) (lines : List Line) → low ≤ low' → LinesFrom low' next lines → LinesFrom low next lines
  lower low low' next [] less from = tt
  lower low low' next (line ∷ lines) less from =
      (record { rising = omega (arith, less, from.0.rising); below = from.0.below; filled = from.0.filled }, from.1)

  from-left : (low next : ℕ) (lines : List Line) → LinesFrom low next lines → LinesFrom low next (left_lines numbers lines)
  from-left low next [] from = tt
  from-left low next (line ∷ lines) from = step (is_gone numbers line.number) (are_gone numbers lines) refl (from-left (line.number + 1) next lines from.1)
    where
      step : (b last : Bool) → are_gone numbers lines ≡ last → LinesFrom (line.number + 1) next (left_lines numbers lines)
          → LinesFrom low next (if b then left_lines numbers lines else (if last then filled line else line) ∷ left_lines numbers lines)
      step true last e rest = lower low (line.number + 1) next (left_lines numbers lines) (omega (arith, from.0.rising)) rest
      step false true e rest = (record { rising = from.0.rising; below = from.0.below; filled = λ is. refl }, rest)
      step false false e rest =
          (record { rising = from.0.rising; below = from.0.below; filled = λ is. absurd (false≢true (sym (none_left numbers lines ∙ e) ∙ is)) }, rest)

  -- the lines that are left keep the rules of a host's lines
  pub left-sound : (next : ℕ) (lines : List Line) → IsSound next lines → IsSound next (left_lines numbers lines)
  left-sound next lines sound = record { bound = sound.bound; in_turn = from-left 0 next lines sound.in_turn }
