-- The moments that a clock has to give, each a number of seconds since 1970.
use Rattle.std.specs.Prelude.{ℕ, List, [], ◌∷◌, Option, None, Some}

-- the moment that comes first, 0 where none is left
abbrev pub first_moment : List ℕ → ℕ
first_moment [] = 0
first_moment (moment ∷ later) = moment

-- the moments after a reading: the last one stays
abbrev pub later_moments : List ℕ → List ℕ
later_moments [] = []
later_moments (moment ∷ []) = moment ∷ []
later_moments (moment ∷ next ∷ later) = next ∷ later

-- the moments after a reading, where they are told
abbrev pub after_reading : Option (List ℕ) → Option (List ℕ)
after_reading None = None
after_reading (Some moments) = Some (later_moments moments)
