-- A run behind one that left nothing but what has a property.
use Rattle.std.proofs.Common.{ℕ, inr, ⊎_elim, arith}
use Rattle.disk_trait.specs.Files.{Files}
use Rattle.disk_trait.specs.Images.{Leaves, LeavesOnly}

-- and no more was added
pub only_after : {D : Type 0} {moment : D → ℕ} {left_since : D → ℕ → Files → Type 0} {old mid new : D} {P : Files → Type 0}
    → LeavesOnly moment left_since old mid P → Leaves moment left_since mid new P → LeavesOnly moment left_since old new P
only_after a b = record {
  later = omega (arith, a.later, b.later);
  each = λ image left. ⊎_elim (λ before. a.each image before) (λ now. now) (b.since _ image a.later left);
  since = λ t image le left. ⊎_elim (λ before. a.since t image le before) (λ now. inr now) (b.since t image (omega (arith, le, a.later)) left);
}
