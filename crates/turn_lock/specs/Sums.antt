-- What the object of the tests stands for.
use Rattle.std.specs.Prelude.{ℕ, ◌+◌, ◌%◌, ◌^◌, ◌==◌, ◌&&◌, List, [], ◌∷◌, Bool}
use Rattle.turn_lock.specs.declared.object.Entry.{Entry}

-- each answer is the sum so far with the ask added, and the last is this one
abbrev pub sums : ℕ → ℕ → List (Entry ℕ ℕ) → Bool
sums from to [] = from == to
sums from to (e ∷ rest) = (e.answer == (from + e.ask) % 2 ^ 64) && sums e.answer to rest
