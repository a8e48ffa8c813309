-- The tables that a deletion makes are those that the shorter list of backups is stored as.
--     tree_of-stored      the tree of the first of stored backups
--     folded-stored      the tables of those that stay
use Rattle.std.specs.Prelude.{◌≡◌, ℕ, suc, Bool, true, false, not, ◌&&◌, List, [], ◌∷◌, length, Some, None, if◌then◌else◌}
use Rattle.std.specs.Option.{unwrap_or}
use Rattle.std.proofs.Common.{refl, sym, ap, ◌∙◌, arith}
use Rattle.backup_rules.specs.declared.lines.Line.{Line}
use Rattle.merge_view.specs.Views.{Rows, view, reverse}
use Rattle.merge_view.specs.ViewLaws.{view-reverse}
use Rattle.merge_view.specs.TableLaws.{view-nil}
use Rattle.ref_counts.specs.Stored.{Backup, stored_before, stored, AreWhole}
use Rattle.backup_delete.specs.Trees.{tree_of, backups, is_gone, are_gone, needs_fold}
use Rattle.backup_delete.specs.Folds.{filled, left_lines, left_trees, next_tree, new_table, folded_tables}

-- the first of trees, empty if there is none
abbrev pub first_tree : List Rows → Rows
first_tree [] = []
first_tree (tree ∷ trees) = tree

-- what is stored of the first of backups
abbrev first_table : Backup → List Backup → Rows
first_table backup [] = backup.rows
first_table backup (next ∷ newer) = stored_before backup next.rows

stored-cons : (backup : Backup) (newer : List Backup) → stored (backup ∷ newer) ≡ first_table backup newer ∷ stored newer
stored-cons backup [] = refl
stored-cons backup (next ∷ newer) = refl

-- entries relative to nothing are the tree
reverse-nil : (tree : Rows) → reverse tree [] ≡ tree
reverse-nil [] = refl
reverse-nil (row ∷ rows) = ap (λ rest. row ∷ rest) (reverse-nil rows)

one_less : (m n : ℕ) → suc m ≡ suc n → m ≡ n
one_less m n e = omega arith

-- ---- trees

pub tree_of-stored : (lines : List Line) (trees : List Rows) → length trees ≡ length lines → AreWhole (backups lines trees)
    → tree_of lines (stored (backups lines trees)) ≡ first_tree trees
tree_of-stored [] [] same whole = refl
tree_of-stored [] (tree ∷ trees) same whole = absurd (omega arith)
tree_of-stored (line ∷ lines) [] same whole = absurd (omega arith)
tree_of-stored (line ∷ []) (tree ∷ []) same whole = step line.filled
  where
    step : (b : Bool) → (if b then tree else view [] tree) ≡ tree
    step true = refl
    step false = view-nil tree whole.0
tree_of-stored (line ∷ []) (tree ∷ next ∷ trees) same whole = absurd (omega arith)
tree_of-stored (line ∷ newer ∷ lines) (tree ∷ []) same whole = absurd (omega arith)
tree_of-stored (line ∷ newer ∷ lines) (tree ∷ next ∷ trees) same whole =
    step line.filled (tree_of-stored (newer ∷ lines) (next ∷ trees) (one_less _ _ same) whole.1)
  where
    step : (b : Bool) → tree_of (newer ∷ lines) (stored (backups (newer ∷ lines) (next ∷ trees))) ≡ next
        → (if b then (if b then tree else reverse tree next) else view (tree_of (newer ∷ lines) (stored (backups (newer ∷ lines) (next ∷ trees)))) (if b then tree else reverse tree next)) ≡ tree
    step true is = refl
    step false is = ap (λ t. view t (reverse tree next)) is ∙ view-reverse tree next whole.0 whole.1.0.in_order

pub next_tree-stored : (numbers : List ℕ) (lines : List Line) (trees : List Rows) → length trees ≡ length lines → AreWhole (backups lines trees)
    → next_tree numbers lines (stored (backups lines trees)) ≡ first_tree (left_trees numbers lines trees)
next_tree-stored numbers [] [] same whole = refl
next_tree-stored numbers [] (tree ∷ trees) same whole = absurd (omega arith)
next_tree-stored numbers (line ∷ lines) [] same whole = absurd (omega arith)
next_tree-stored numbers (line ∷ lines) (tree ∷ trees) same whole =
    ap (next_tree numbers (line ∷ lines)) cons
    ∙ step (is_gone numbers line.number) (next_tree-stored numbers lines trees (one_less _ _ same) whole.1)
  where
    backup : Backup
    backup = record { filled = line.filled; rows = tree }

    cons : stored (backups (line ∷ lines) (tree ∷ trees)) ≡ first_table backup (backups lines trees) ∷ stored (backups lines trees)
    cons = stored-cons backup (backups lines trees)

    here : tree_of (line ∷ lines) (first_table backup (backups lines trees) ∷ stored (backups lines trees)) ≡ tree
    here = ap (tree_of (line ∷ lines)) (sym cons) ∙ tree_of-stored (line ∷ lines) (tree ∷ trees) same whole

    step : (b : Bool) → next_tree numbers lines (stored (backups lines trees)) ≡ first_tree (left_trees numbers lines trees)
        → (if b then next_tree numbers lines (stored (backups lines trees)) else tree_of (line ∷ lines) (first_table backup (backups lines trees) ∷ stored (backups lines trees)))
        ≡ first_tree (if b then left_trees numbers lines trees else tree ∷ left_trees numbers lines trees)
    step true rest = rest
    step false rest = here

-- ---- tables

-- what is stored of a backup that stays, before those of the newer ones that stay
stays : (numbers : List ℕ) (line : Line) (tree : Rows) (lines : List Line) (trees : List Rows) → length trees ≡ length lines
    → first_table (record { filled = (if are_gone numbers lines then filled line else line).filled; rows = tree }) (backups (left_lines numbers lines) (left_trees numbers lines trees))
    ≡ (if line.filled then tree else reverse tree (first_tree (left_trees numbers lines trees)))
stays numbers line tree [] [] same = step line.filled
  where
    step : (b : Bool) → tree ≡ (if b then tree else reverse tree [])
    step true = refl
    step false = sym (reverse-nil tree)
stays numbers line tree [] (next ∷ trees) same = absurd (omega arith)
stays numbers line tree (newer ∷ lines) [] same = absurd (omega arith)
stays numbers line tree (newer ∷ lines) (next ∷ trees) same = step (is_gone numbers newer.number) (stays numbers line tree lines trees (one_less _ _ same))
  where
    step : (b : Bool)
        → first_table (record { filled = (if are_gone numbers lines then filled line else line).filled; rows = tree }) (backups (left_lines numbers lines) (left_trees numbers lines trees))
        ≡ (if line.filled then tree else reverse tree (first_tree (left_trees numbers lines trees)))
        → first_table (record { filled = (if b && are_gone numbers lines then filled line else line).filled; rows = tree })
        (backups (if b then left_lines numbers lines else (if are_gone numbers lines then filled newer else newer) ∷ left_lines numbers lines) (if b then left_trees numbers lines trees else next ∷ left_trees numbers lines trees))
        ≡ (if line.filled then tree else reverse tree (first_tree (if b then left_trees numbers lines trees else next ∷ left_trees numbers lines trees)))
    step true rest = rest
    step false rest = refl

-- the table of a backup that stays
table_stays : (numbers : List ℕ) (line : Line) (tree : Rows) (lines : List Line) (trees : List Rows) → length trees ≡ length lines
    → AreWhole (backups (line ∷ lines) (tree ∷ trees))
    → unwrap_or (new_table numbers line (first_table (record { filled = line.filled; rows = tree }) (backups lines trees)) lines (stored (backups lines trees))) (first_table (record { filled = line.filled; rows = tree }) (backups lines trees))
    ≡ (if line.filled then tree else reverse tree (first_tree (left_trees numbers lines trees)))
table_stays numbers line tree [] [] same whole = step line.filled
  where
    step : (b : Bool) → unwrap_or (if not b && false then Some (reverse (if b then tree else view [] tree) []) else None) tree ≡ (if b then tree else reverse tree [])
    step true = refl
    step false = sym (reverse-nil tree)
table_stays numbers line tree [] (next ∷ trees) same whole = absurd (omega arith)
table_stays numbers line tree (newer ∷ lines) [] same whole = absurd (omega arith)
table_stays numbers line tree (newer ∷ lines) (next ∷ trees) same whole =
    ap (λ t. unwrap_or (if needs_fold numbers line (newer ∷ lines) then Some t else None) table) relative
    ∙ step line.filled (is_gone numbers newer.number)
  where
    table : Rows
    table = if line.filled then tree else reverse tree next

    tables : List Rows
    tables = stored (backups (newer ∷ lines) (next ∷ trees))

    left : List Rows
    left = left_trees numbers (newer ∷ lines) (next ∷ trees)

    relative : reverse (tree_of (line ∷ newer ∷ lines) (table ∷ tables)) (next_tree numbers (newer ∷ lines) tables) ≡ reverse tree (first_tree left)
    relative = λ i. reverse (tree_of-stored (line ∷ newer ∷ lines) (tree ∷ next ∷ trees) (ap suc same) whole i)
        (next_tree-stored numbers (newer ∷ lines) (next ∷ trees) same whole.1 i)

    step : (b g : Bool)
        → unwrap_or (if not b && g then Some (reverse tree (first_tree (if g then left_trees numbers lines trees else next ∷ left_trees numbers lines trees))) else None) (if b then tree else reverse tree next)
        ≡ (if b then tree else reverse tree (first_tree (if g then left_trees numbers lines trees else next ∷ left_trees numbers lines trees)))
    step true g = refl
    step false true = refl
    step false false = refl

-- the tables that a deletion makes are what the backups that stay are stored as
pub folded-stored : (numbers : List ℕ) (lines : List Line) (trees : List Rows) → length trees ≡ length lines → AreWhole (backups lines trees)
    → folded_tables numbers lines (stored (backups lines trees)) ≡ stored (backups (left_lines numbers lines) (left_trees numbers lines trees))
folded-stored numbers [] [] same whole = refl
folded-stored numbers [] (tree ∷ trees) same whole = absurd (omega arith)
folded-stored numbers (line ∷ lines) [] same whole = absurd (omega arith)
folded-stored numbers (line ∷ lines) (tree ∷ trees) same whole =
    ap (folded_tables numbers (line ∷ lines)) (stored-cons backup (backups lines trees))
    ∙ step (is_gone numbers line.number) (folded-stored numbers lines trees (one_less _ _ same) whole.1)
  where
    backup : Backup
    backup = record { filled = line.filled; rows = tree }

    left : Backup
    left = record { filled = (if are_gone numbers lines then filled line else line).filled; rows = tree }

    newer : List Backup
    newer = backups (left_lines numbers lines) (left_trees numbers lines trees)

    table : Rows
    table = first_table backup (backups lines trees)

    here : unwrap_or (new_table numbers line table lines (stored (backups lines trees))) table ≡ first_table left newer
    here = table_stays numbers line tree lines trees (one_less _ _ same) whole ∙ sym (stays numbers line tree lines trees (one_less _ _ same))

    step : (b : Bool) → folded_tables numbers lines (stored (backups lines trees)) ≡ stored newer
        → (if b then folded_tables numbers lines (stored (backups lines trees))
        else unwrap_or (new_table numbers line table lines (stored (backups lines trees))) table ∷ folded_tables numbers lines (stored (backups lines trees)))
        ≡ stored (backups (if b then left_lines numbers lines else (if are_gone numbers lines then filled line else line) ∷ left_lines numbers lines)
        (if b then left_trees numbers lines trees else tree ∷ left_trees numbers lines trees))
    step true rest = rest
    step false rest = (λ i. here i ∷ rest i) ∙ sym (stored-cons left newer)
