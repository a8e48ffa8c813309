-- What the tables that a deletion writes, removes and replaces change of the totals.
--     folded-total      what is left and what is taken is what there was and what is added
use Rattle.std.specs.Prelude.{◌≡◌, ℕ, suc, ◌+◌, ◌≤◌, Bool, true, false, ◌||◌, List, [], ◌∷◌, ◌++◌, length, Some, None, if◌then◌else◌}
use Rattle.std.specs.Option.{unwrap_or, option_to_list}
use Rattle.std.proofs.Common.{refl, sym, ap, ◌∙◌, arith}
use Rattle.std.proofs.lemmas.List.Elements.{filter_map-append}
use Rattle.disk_trait.specs.declared.ids.PoolId.{PoolId}
use Rattle.backup_rules.specs.declared.lines.Line.{Line}
use Rattle.merge_view.specs.Views.{Rows, reverse}
use Rattle.stored_trees.specs.Occurrences.{occurrences}
use Rattle.ref_counts.specs.Numbers.{total}
use Rattle.ref_counts.specs.NumberLaws.{total-append}
use Rattle.backup_delete.specs.Trees.{tree_of, is_gone, needs_fold}
use Rattle.backup_delete.specs.Folds.{next_tree, folded_tables, Change, replaced, change_of, changes, added_tables, taken_tables}

one_less : (m n : ℕ) → suc m ≡ suc n → m ≡ n
one_less m n e = omega arith

pub added_total : (id : PoolId) (xs ys : List Change) → total id (added_tables (xs ++ ys)) ≡ total id (added_tables xs) + total id (added_tables ys)
added_total id xs ys = ap (total id) (filter_map-append (λ (c : Change). c.1) xs ys) ∙ total-append id (added_tables xs) (added_tables ys)

pub folded-total : (id : PoolId) (numbers : List ℕ) (lines : List Line) (tables : List Rows) → length tables ≡ length lines
    → total id (folded_tables numbers lines tables) + total id (taken_tables numbers lines tables)
    ≡ total id tables + total id (added_tables (changes numbers lines tables))
folded-total id numbers [] [] same = refl
folded-total id numbers [] (table ∷ tables) same = absurd (omega arith)
folded-total id numbers (line ∷ lines) [] same = absurd (omega arith)
folded-total id numbers (line ∷ lines) (table ∷ tables) same =
    step (is_gone numbers line.number) (needs_fold numbers line lines) (folded-total id numbers lines tables (one_less _ _ same))
    ∙ ap (λ n. total id (table ∷ tables) + n) (sym (added_total id (changes numbers lines tables) (option_to_list (change_of numbers line table lines tables))))
  where
    new : Rows
    new = reverse (tree_of (line ∷ lines) (table ∷ tables)) (next_tree numbers lines tables)

    left : List Rows
    left = folded_tables numbers lines tables

    taken : List Rows
    taken = taken_tables numbers lines tables

    added : ℕ
    added = total id (added_tables (changes numbers lines tables))

    removed : (f t all a here : ℕ) → f + t ≡ all + a → f + (here + t) ≡ (here + all) + (a + 0)
    removed f t all a here e = omega (arith, e)

    replaced_by : (f t all a here there : ℕ) → f + t ≡ all + a → (there + f) + (here + t) ≡ (here + all) + (a + (there + 0))
    replaced_by f t all a here there e = omega (arith, e)

    unchanged : (f t all a here : ℕ) → f + t ≡ all + a → (here + f) + t ≡ (here + all) + (a + 0)
    unchanged f t all a here e = omega (arith, e)

    step : (g nf : Bool) → total id left + total id taken ≡ total id tables + added
        → total id (if g then left else unwrap_or (if nf then Some new else None) table ∷ left) + total id (if g || nf then table ∷ taken else taken)
        ≡ (occurrences id table + total id tables) + (added + total id (added_tables (option_to_list (if g then Some (line.number, None) else replaced line.number (if nf then Some new else None)))))
    step true nf e = removed (total id left) (total id taken) (total id tables) added (occurrences id table) e
    step false true e = replaced_by (total id left) (total id taken) (total id tables) added (occurrences id table) (occurrences id new) e
    step false false e = unchanged (total id left) (total id taken) (total id tables) added (occurrences id table) e

-- what is taken was there
pub taken-within : (id : PoolId) (numbers : List ℕ) (lines : List Line) (tables : List Rows) → total id (taken_tables numbers lines tables) ≤ total id tables
taken-within id numbers [] tables = omega arith
taken-within id numbers (line ∷ lines) [] = omega arith
taken-within id numbers (line ∷ lines) (table ∷ tables) = step (is_gone numbers line.number || needs_fold numbers line lines) (taken-within id numbers lines tables)
  where
    step : (b : Bool) → total id (taken_tables numbers lines tables) ≤ total id tables
        → total id (if b then table ∷ taken_tables numbers lines tables else taken_tables numbers lines tables) ≤ occurrences id table + total id tables
    step true e = omega (arith, e)
    step false e = omega (arith, e)
