-- Counts of faults: they never fall, rise where a call fails, and stay where it doesn't.
use Rattle.std.specs.Prelude.{◌≡◌, ℕ, ◌+◌, ◌-◌, ◌^◌, ◌≤◌, min}

-- the count rose, or stands at the largest number
abbrev pub Rose : ℕ → ℕ → Type 0
Rose before now = min (before + 1) (2 ^ 64 - 1) ≤ now

-- the count doesn't fall, rose where the call failed, and stayed where it didn't
pub record Counted (before now : ℕ) (failed : Type 0) : Type 0 where
  pub later : before ≤ now
  pub rose : failed → Rose before now
  pub stays : (failed → ⊥) → now ≡ before
