-- Laws of specs/Images.
use Rattle.std.specs.Prelude.{◌⊎◌, ℕ, if◌then◌else◌}
use Rattle.std.proofs.Common.{inl, inr, ⊎_elim, arith}
use Rattle.disk_trait.specs.Files.{Files}
use Rattle.disk_trait.specs.Images.{Elapses, Leaves, LeavesOnly}

-- one call
pub leaves_by : {D : Type 0} {moment : D → ℕ} {left_since : D → ℕ → Files → Type 0} {old new : D} {may_leave : Files → Type 0} {P : Files → Type 0}
    → Elapses moment left_since old new may_leave → ((image : Files) → may_leave image → P image) → Leaves moment left_since old new P
leaves_by time here = record {
  later = time.later;
  since = λ t image le left. ⊎_elim (λ before. inl before) (λ now. inr (here image now)) (time.nothing_else t image le left);
}

-- no call
pub leaves_none : {D : Type 0} {moment : D → ℕ} {left_since : D → ℕ → Files → Type 0} (disk : D) (P : Files → Type 0) → Leaves moment left_since disk disk P
leaves_none disk P = record { later = omega arith; since = λ t image le left. inl left }

-- one run after another
pub leaves_then : {D : Type 0} {moment : D → ℕ} {left_since : D → ℕ → Files → Type 0} {old mid new : D} {P : Files → Type 0}
    → Leaves moment left_since old mid P → Leaves moment left_since mid new P → Leaves moment left_since old new P
leaves_then a b = record {
  later = omega (arith, a.later, b.later);
  since = λ t image le left. ⊎_elim (λ before. a.since t image le before) (λ now. inr now) (b.since t image (omega (arith, le, a.later)) left);
}

-- with a property that says less
pub leaves_wider : {D : Type 0} {moment : D → ℕ} {left_since : D → ℕ → Files → Type 0} {old new : D} {P Q : Files → Type 0}
    → Leaves moment left_since old new P → ((image : Files) → P image → Q image) → Leaves moment left_since old new Q
leaves_wider a wider = record {
  later = a.later;
  since = λ t image le left. ⊎_elim (λ before. inl before) (λ now. inr (wider image now)) (a.since t image le left);
}

-- with what the images at the start have
pub leaves_only : {D : Type 0} {moment : D → ℕ} {left_since : D → ℕ → Files → Type 0} {old new : D} {P : Files → Type 0}
    → Leaves moment left_since old new P → ((image : Files) → left_since old (moment old) image → P image) → LeavesOnly moment left_since old new P
leaves_only a start = record {
  later = a.later;
  each = λ image left. ⊎_elim (λ before. start image before) (λ now. now) (a.since _ image (omega arith) left);
  since = a.since;
}

pub only_wider : {D : Type 0} {moment : D → ℕ} {left_since : D → ℕ → Files → Type 0} {old new : D} {P Q : Files → Type 0}
    → LeavesOnly moment left_since old new P → ((image : Files) → P image → Q image) → LeavesOnly moment left_since old new Q
only_wider a wider = record {
  later = a.later;
  each = λ image left. wider image (a.each image left);
  since = λ t image le left. ⊎_elim (λ before. inl before) (λ now. inr (wider image now)) (a.since t image le left);
}

pub only_then : {D : Type 0} {moment : D → ℕ} {left_since : D → ℕ → Files → Type 0} {old mid new : D} {P : Files → Type 0}
    → LeavesOnly moment left_since old mid P → LeavesOnly moment left_since mid new P → LeavesOnly moment left_since old new P
only_then a b = record {
  later = omega (arith, a.later, b.later);
  each = λ image left. ⊎_elim (λ before. a.each image before) (λ now. now) (b.since _ image a.later left);
  since = λ t image le left. ⊎_elim (λ before. a.since t image le before) (λ now. inr now) (b.since t image (omega (arith, le, a.later)) left);
}
