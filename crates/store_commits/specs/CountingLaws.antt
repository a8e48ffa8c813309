-- The counts of a host after a commit.
--     one_at, within_there      what stands at a place, and that it is one
use Rattle.std.specs.Prelude.{◌≡◌, ℕ, ◌+◌, ◌-◌, ◌^◌, ◌≤◌, ◌<◌, List, Some, slice_get, length}
use Rattle.std.proofs.Common.{sym, ◌∙◌, subst, arith}
use Rattle.std.proofs.lemmas.Bool.Decides.{nat_tests}
use Rattle.std.proofs.lemmas.Option.{slice_get_within}
use Rattle.ref_counts.specs.Numbers.{Items, capped}

-- numbers that stay below the greatest one
pub next_number : (old less more new : ℕ) → new + less ≡ old + more → new < 2 ^ 64 → old < 2 ^ 64 → less ≤ old → more < 2 ^ 64
    → capped ((old - capped less) + capped more) ≡ new
next_number old less more new e a b c m = grind (arith, nat_tests)

-- by what stands at a place
pub one_at : (P : Items → Type 0) (counts : List Items) (place : ℕ) (old : Items) → Some old ≡ slice_get counts place → P old
    → (olds : Items) → slice_get counts place ≡ Some olds → P olds
one_at P counts place old here is olds there = subst P (same old olds (here ∙ there)) is
  where
    same : (a b : Items) → Some a ≡ Some b → a ≡ b
    same a b e = cc

pub within_there : (counts : List Items) (place : ℕ) (old : Items) → Some old ≡ slice_get counts place → place < length counts
within_there counts place old here = slice_get_within counts place old (sym here)
