-- Lines of a file, one at a time.
--     free_number-push      behind one more line
--     lines_from_items, items_from_lines, each_line      lines of a file follow one another, and the other way round
use Rattle.std.proofs.Common.{◌≡◌, ℕ, suc, ◌+◌, ◌==◌, Bool, List, [], ◌∷◌, ◌++◌, length, refl, sym, subst, arith}
use Rattle.std.proofs.lemmas.Bool.{eq-eqb, ne_eqb}
use Rattle.std.proofs.lemmas.List.{length_push}
use Rattle.std.specs.List.{AllByRecursion}
use Rattle.backup_rules.specs.declared.lines.Line.{Line}
use Rattle.wire_bytes.specs.Breaks.{AreItems}
use Rattle.backup_rules.specs.Layout.{IsLine}
use Rattle.backup_index.specs.Lines.{free_number, is_none, Follows, LinesFrom, LineFits}

pub free_number-push : (before : List Line) (line : Line) → free_number (before ++ line ∷ []) ≡ line.number + 1
free_number-push [] line = refl
free_number-push (other ∷ []) line = refl
free_number-push (other ∷ another ∷ before) line = free_number-push (another ∷ before) line

-- the last line is the one behind which none follow
last_test : (n count : ℕ) (lines : List Line) → n + suc (length lines) ≡ count → (n + 1 == count) ≡ is_none lines
last_test n count [] is = eq-eqb (n + 1) count is
last_test n count (line ∷ lines) is = ne_eqb (n + 1) count (λ e. omega arith)

longer : (before : List Line) (line : Line) (lines : List Line) (count : ℕ) → length before + suc (length lines) ≡ count → length (before ++ line ∷ []) + length lines ≡ count
longer before line lines count is = omega (arith, length_push before line)

module _ (next count : ℕ) where
  pub lines_from_items : (before lines : List Line) → AreItems (LineFits next count) before lines → length before + length lines ≡ count → LinesFrom (free_number before) next lines
  lines_from_items before [] are is = tt
  lines_from_items before (line ∷ lines) are is = (
    subst (λ (b : Bool). Follows (free_number before) next b line) (last_test (length before) count lines is) are.0.follows,
    subst (λ (low : ℕ). LinesFrom low next lines) (free_number-push before line) (lines_from_items (before ++ line ∷ []) lines are.1 (longer before line lines count is)),
  )

  pub items_from_lines : (before lines : List Line) → LinesFrom (free_number before) next lines → AllByRecursion IsLine lines → length before + length lines ≡ count → AreItems (LineFits next count) before lines
  items_from_lines before [] from each is = tt
  items_from_lines before (line ∷ lines) from each is = (
    record { is = each.0; follows = subst (λ (b : Bool). Follows (free_number before) next b line) (sym (last_test (length before) count lines is)) from.0 },
    items_from_lines (before ++ line ∷ []) lines (subst (λ (low : ℕ). LinesFrom low next lines) (sym (free_number-push before line)) from.1) each.1 (longer before line lines count is),
  )

  pub each_line : (before lines : List Line) → AreItems (LineFits next count) before lines → AllByRecursion IsLine lines
  each_line before [] are = tt
  each_line before (line ∷ lines) are = (are.0.is, each_line (before ++ line ∷ []) lines are.1)
