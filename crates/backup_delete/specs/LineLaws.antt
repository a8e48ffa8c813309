-- Lines that are kept, the last of them filled, are those that stay.
use Rattle.std.specs.Prelude.{◌≡◌, ℕ, Bool, true, false, ◌&&◌, List, [], ◌∷◌, if◌then◌else◌}
use Rattle.std.proofs.Common.{refl, ◌∙◌}
use Rattle.backup_rules.specs.declared.lines.Line.{Line}
use Rattle.backup_index.specs.Lines.{is_none}
use Rattle.backup_delete.specs.Trees.{is_gone, are_gone}
use Rattle.backup_delete.specs.Folds.{filled, kept_lines, last_filled, left_lines}

none_kept : (numbers : List ℕ) (lines : List Line) → is_none (kept_lines numbers lines) ≡ are_gone numbers lines
none_kept numbers [] = refl
none_kept numbers (line ∷ lines) = step (is_gone numbers line.number) (none_kept numbers lines)
  where
    step : (b : Bool) → is_none (kept_lines numbers lines) ≡ are_gone numbers lines
        → is_none (if b then kept_lines numbers lines else line ∷ kept_lines numbers lines) ≡ (b && are_gone numbers lines)
    step true rest = rest
    step false rest = refl

pub none_left : (numbers : List ℕ) (lines : List Line) → is_none (left_lines numbers lines) ≡ are_gone numbers lines
none_left numbers [] = refl
none_left numbers (line ∷ lines) = step (is_gone numbers line.number) (none_left numbers lines)
  where
    step : (b : Bool) → is_none (left_lines numbers lines) ≡ are_gone numbers lines
        → is_none (if b then left_lines numbers lines else (if are_gone numbers lines then filled line else line) ∷ left_lines numbers lines)
        ≡ (b && are_gone numbers lines)
    step true rest = rest
    step false rest = refl

last_filled-cons : (line : Line) (lines : List Line) → last_filled (line ∷ lines) ≡ (if is_none lines then filled line else line) ∷ last_filled lines
last_filled-cons line [] = refl
last_filled-cons line (next ∷ lines) = refl

pub left-kept : (numbers : List ℕ) (lines : List Line) → last_filled (kept_lines numbers lines) ≡ left_lines numbers lines
left-kept numbers [] = refl
left-kept numbers (line ∷ lines) = step (is_gone numbers line.number) (left-kept numbers lines)
  where
    step : (b : Bool) → last_filled (kept_lines numbers lines) ≡ left_lines numbers lines
        → last_filled (if b then kept_lines numbers lines else line ∷ kept_lines numbers lines)
        ≡ (if b then left_lines numbers lines else (if are_gone numbers lines then filled line else line) ∷ left_lines numbers lines)
    step true rest = rest
    step false rest = last_filled-cons line (kept_lines numbers lines)
        ∙ (λ i. (if none_kept numbers lines i then filled line else line) ∷ rest i)
