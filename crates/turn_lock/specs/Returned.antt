-- Callers by their numbers alone, which calls don't change.
use Rattle.std.specs.Prelude.{◌≡◌, ℕ, zero, suc, List, [], ◌∷◌}
use Rattle.turn_lock.specs.declared.object.Caller.{Caller}
use Rattle.turn_lock.specs.History.{caller}

module _ {A B : Type 0} where
  -- the same numbers, with as many children
  abbrev pub SameNumbers : List (Caller A B) → List (Caller A B) → Type 0
  SameNumbers [] [] = Unit {0}
  SameNumbers [] (q ∷ qs) = ⊥
  SameNumbers (p ∷ ps) [] = ⊥
  SameNumbers (p ∷ ps) (q ∷ qs) = (p.number ≡ q.number) × (p.children ≡ q.children) × SameNumbers ps qs

  -- the first caller's children from one place on, so many
  abbrev pub children_row : ℕ → ℕ → List (Caller A B)
  children_row start zero = []
  children_row start (suc n) = caller (start ∷ []) 0 [] ∷ children_row (suc start) n
