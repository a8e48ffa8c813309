-- The moments of a clock.
use Rattle.std.specs.Prelude.{◌≡◌, ℕ, List, [], ◌∷◌, Option}
use Rattle.std.specs.Option.{ForSome}
use Rattle.stream_traits.specs.Moments.{first_moment, after_reading}

-- the clock gave these moments, one after the other
abbrev pub Gave : Option (List ℕ) → List ℕ → Option (List ℕ) → Type 0
Gave told [] told' = told' ≡ told
Gave told (moment ∷ moments) told' = ForSome told (λ ahead. moment ≡ first_moment ahead) × Gave (after_reading told) moments told'
