-- The backups that a deletion leaves are numbered as all were.
--     left_numbered      their numbers rise and stay below the next one, and they have the same trees
use Rattle.std.specs.Prelude.{◌≡◌, ℕ, zero, suc, ◌+◌, ◌<◌, Bool, true, false, List, [], ◌∷◌, Some, slice_get, if◌then◌else◌}
use Rattle.std.proofs.Common.{refl, subst, arith}
use Rattle.backup_delete.specs.Trees.{is_gone, are_gone}
use Rattle.office_model.specs.Office.{Backup, IsTree, AreNumbered}
use Rattle.office_model.specs.Parts.{lines_of, filled_as}
use Rattle.office_deletion.specs.DeletionLaws.{left_backups}

-- what one backup keeps to
record IsNumbered (low next : ℕ) (b : Backup) : Type 0 where
  pub above : low < b.line.number + 1
  pub below : b.line.number < next
  pub tree : IsTree b.tree

abbrev AreFrom : ℕ → ℕ → List Backup → Type 0
AreFrom low next [] = Unit {0}
AreFrom low next (b ∷ backups) = IsNumbered low next b × AreFrom (b.line.number + 1) next backups

from_numbered : (low next : ℕ) (backups : List Backup) → ((i : ℕ) (b : Backup) → slice_get backups i ≡ Some b → low < b.line.number + 1)
    → AreNumbered next backups → AreFrom low next backups
from_numbered low next [] above numbered = tt
from_numbered low next (b ∷ backups) above numbered = (
  record { above = above zero b refl; below = numbered.below zero b refl; tree = numbered.trees zero b refl },
  from_numbered (b.line.number + 1) next backups
      (λ i x e. let less = numbered.rise zero (suc i) b x (omega arith) refl e in omega (arith, less))
      (record {
        rise = λ i j x y less e f. numbered.rise (suc i) (suc j) x y (omega (arith, less)) e f;
        below = λ i x e. numbered.below (suc i) x e;
        trees = λ i x e. numbered.trees (suc i) x e;
      }),
)

-- each of them
one_of : (low next : ℕ) (backups : List Backup) → AreFrom low next backups → (i : ℕ) (b : Backup) → slice_get backups i ≡ Some b
    → IsNumbered low next b
one_of low next [] from i b e = absurd cc
one_of low next (x ∷ backups) from zero b e = let same : x ≡ b = cc in subst (IsNumbered low next) same from.0
one_of low next (x ∷ backups) from (suc i) b e =
    let rest = one_of (x.line.number + 1) next backups from.1 i b e in
    let first = from.0.above in
    let above = rest.above in
    record { above = omega (arith, first, above); below = rest.below; tree = rest.tree }

numbered_from : (low next : ℕ) (backups : List Backup) → AreFrom low next backups → AreNumbered next backups
numbered_from low next backups from = record {
  rise = rise low backups from;
  below = λ i b e. (one_of low next backups from i b e).below;
  trees = λ i b e. (one_of low next backups from i b e).tree;
}
  where
    rise : (low : ℕ) (xs : List Backup) → AreFrom low next xs → (i j : ℕ) (a b : Backup) → i < j → slice_get xs i ≡ Some a
        → slice_get xs j ≡ Some b → a.line.number < b.line.number
    rise low [] from i j a b less e f = absurd cc
    rise low (x ∷ xs) from i zero a b less e f = absurd (omega (arith, less))
    rise low (x ∷ xs) from zero (suc j) a b less e f =
        let same : x ≡ a = cc in
        let above = (one_of (x.line.number + 1) next xs from.1 j b f).above in
        subst (λ (y : Backup). y.line.number < b.line.number) same (omega (arith, above))
    rise low (x ∷ xs) from (suc i) (suc j) a b less e f = rise (x.line.number + 1) xs from.1 i j a b (omega (arith, less)) e f

lower : (low high next : ℕ) (backups : List Backup) → low < high + 1 → AreFrom high next backups → AreFrom low next backups
lower low high next [] less from = tt
lower low high next (b ∷ backups) less from =
    let above = from.0.above in
    (record { above = omega (arith, less, above); below = from.0.below; tree = from.0.tree }, from.1)

left_from : (numbers : List ℕ) (low next : ℕ) (backups : List Backup) → AreFrom low next backups
    → AreFrom low next (left_backups numbers backups)
left_from numbers low next [] from = tt
left_from numbers low next (b ∷ backups) from =
    step (is_gone numbers b.line.number) (are_gone numbers (lines_of backups)) (left_from numbers (b.line.number + 1) next backups from.1)
  where
    step : (gone last : Bool) → AreFrom (b.line.number + 1) next (left_backups numbers backups)
        → AreFrom low next (if gone then left_backups numbers backups
        else (if last then filled_as true b else b) ∷ left_backups numbers backups)
    step true last rest =
        let above = from.0.above in
        lower low (b.line.number + 1) next (left_backups numbers backups) (omega (arith, above)) rest
    step false true rest = (record { above = from.0.above; below = from.0.below; tree = from.0.tree }, rest)
    step false false rest = (from.0, rest)

pub left_numbered : (numbers : List ℕ) (next : ℕ) (backups : List Backup) → AreNumbered next backups
    → AreNumbered next (left_backups numbers backups)
left_numbered numbers next backups numbered =
    numbered_from 0 next (left_backups numbers backups)
    (left_from numbers 0 next backups (from_numbered 0 next backups (λ i b e. omega arith) numbered))
