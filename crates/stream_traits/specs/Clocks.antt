-- The clocks in memory: the moments that they have to give.
use Rattle.std.specs.Prelude.{ℕ, List, [], ◌∷◌, drop}
use Rattle.stream_traits.specs.declared.memory_clock.ListClock.{ListClock}
use Rattle.stream_traits.specs.declared.memory_clock.FixedClock.{FixedClock}

-- the moments of the list that weren't passed
abbrev pub moments_left : ListClock → List ℕ
moments_left clock = drop clock.next clock.moments.items

-- the one moment
abbrev pub one_moment : FixedClock → List ℕ
one_moment clock = clock.moment ∷ []
