-- Those of a list that meet a test are no more than all.
use Rattle.std.specs.Prelude.{◌≤◌, ◌+◌, Bool, true, false, cond, List, [], ◌∷◌, length}
use Rattle.std.proofs.Common.{arith}
use Rattle.office_model.specs.Pool.{how_many}

pub how_many-le : {A : Type 0} (test : A → Bool) (xs : List A) → how_many test xs ≤ length xs
how_many-le test [] = omega arith
how_many-le test (x ∷ xs) = step (test x) (how_many-le test xs)
  where
    step : (b : Bool) → how_many test xs ≤ length xs → cond b 1 0 + how_many test xs ≤ length (x ∷ xs)
    step true h = omega arith
    step false h = omega arith
