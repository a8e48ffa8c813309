-- Laws of the steps of a loop over names.
use Rattle.std.proofs.Common.{◌≡◌, ◌⊎◌, ◌<◌, ◌≤◌, ℕ, zero, suc, ◌+◌, nat_lt, inl, inr, List, [], ◌∷◌, length, drop, get_or, add-one, drop-cons, arith}
use Rattle.std.proofs.lemmas.Bool.Decides.{nat_tests}
use Rattle.std.specs.List.{AllByRecursion}
use Rattle.intent_journal.specs.ChangesLaws.{either}

-- the item of a loop is the first of what is left
pub first_of : {A : Type 0} (xs : List A) (i : ℕ) (d : A) → i < length xs → drop i xs ≡ get_or xs i d ∷ drop (i + 1) xs
first_of xs i d lt = rw (add-one) (drop-cons xs i d lt)

-- what holds of each item holds of that at an index
pub all_at : {A : Type 0} (P : A → Type 0) (xs : List A) (i : ℕ) (d : A) → i < length xs → AllByRecursion P xs → P (get_or xs i d)
all_at P [] i d lt all = absurd (omega arith)
all_at P (x ∷ xs) zero d lt all = all.0
all_at P (x ∷ xs) (suc i) d lt all = all_at P xs i d (omega arith) all.1

-- below the next number, or at least this one
pub lt_or : (x n : ℕ) → x < n + 1 → (x < n) ⊎ (x ≡ n)
lt_or x n lt = elim (either (nat_lt x n)) [
  | inl e ↦ inl (grind (arith, nat_tests))
  | inr e ↦ inr (grind (arith, nat_tests))
]

pub lt_or_le : (x n : ℕ) → (x < n) ⊎ (n ≤ x)
lt_or_le x n = elim (either (nat_lt x n)) [
  | inl e ↦ inl (grind (arith, nat_tests))
  | inr e ↦ inr (grind (arith, nat_tests))
]
