-- What the parts of the judge tell.
--     IsTally      the faults so far: the first, and their number
--     AreKnown, is_unknown_in      the ids of a host's items and of the pool
--     place      where an id stands among others
--     AreNumbers      counters that hold a number for each id
use Rattle.std.specs.Prelude.{◌≡◌, ℕ, ◌+◌, ◌-◌, ◌<◌, ◌^◌, min, slice_set, slice_index, Bool, List, [], ◌∷◌, length, take, map, Option, Some, None, if◌then◌else◌}
use Rattle.certificate_judge.specs.declared.tally.Tally.{Tally}
use Rattle.certificate_judge.specs.declared.noting.Known.{Known}
use Rattle.certificates.specs.PrintLaws.{AreRising}
use Rattle.certificates.specs.Certificate.{Id}
use Rattle.certificate_judge.specs.Faults.{is_same, is_unknown}

abbrev pub first_of : List ℕ → Option ℕ
first_of [] = None
first_of (offset ∷ offsets) = Some offset

-- the first of some offsets, and their number, if that is one of 64 bits
pub record IsTally (offsets : List ℕ) (tally : Tally) : Type 0 where
  pub first : tally.first ≡ first_of offsets
  pub number : length offsets < 2 ^ 64 → tally.number ≡ length offsets

abbrev pub one_more : Option ℕ → Option ℕ
one_more None = None
one_more (Some n) = Some (n + 1)

-- where the first of ids stands that is this one
abbrev pub place : Id → List Id → Option ℕ
place id [] = None
place id (x ∷ xs) = if is_same id x then Some 0 else one_more (place id xs)

-- the ids of records, each of which begins with its own
abbrev pub ids_in : List (List ℕ) → List Id
ids_in records = map (take 18) records

-- counters with 1 more at a place, if there is one; the greatest number stays
abbrev pub bumped : Option ℕ → List ℕ → List ℕ
bumped None counters = counters
bumped (Some index) counters = slice_set counters index (min (slice_index counters index + 1) (2 ^ 64 - 1))

-- counters, one for each id, hold its number, if that is one of 64 bits
abbrev pub AreNumbers : (Id → ℕ) → List Id → List ℕ → Type 0
AreNumbers numbers [] counters = Unit {0}
AreNumbers numbers (id ∷ ids) [] = ⊥
AreNumbers numbers (id ∷ ids) (counter ∷ counters) = (numbers id < 2 ^ 64 → counter ≡ numbers id) × AreNumbers numbers ids counters

-- ids that are known: those of a host's items, and those of the pool, each in order
pub record AreKnown (known : Known) : Type 0 where
  pub items : AreRising (ids_in known.items.now)
  pub pool : AreRising (ids_in known.pool.now)

abbrev pub is_unknown_in : Known → Id → Bool
is_unknown_in known = is_unknown (ids_in known.items.now) (ids_in known.pool.now)
