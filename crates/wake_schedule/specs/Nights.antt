-- The nightly work, and what a minute of the day asks for.
--     is_nightly, nightly_of      the buckets b of night n with b mod period = n mod period
--     wakeup_of      the first entry of the schedule is the nightly one
use Rattle.std.specs.Prelude.{ℕ, ℤ, pos, ◌%◌, ◌==◌, Bool, false, if◌then◌else◌, List, [], ◌∷◌, map, unsigned_abs}
use Rattle.std.specs.Int.{int_rem_euclid}
use Rattle.std.specs.List.{list_any, range_with_len}
use Rattle.wake_schedule.specs.declared.nights.Wakeup.{Wakeup}
use Rattle.wake_schedule.specs.declared.nights.Wakeup.TheVariants.{Nothing, Wake, Nightly}

-- the remainder of a night before 1970 isn't negative either
abbrev pub is_nightly : ℤ → ℕ → ℕ → Bool
is_nightly day period bucket = bucket % period == unsigned_abs (int_rem_euclid day (pos period))

abbrev pub nightly_of : ℤ → ℕ → List Bool
nightly_of day period = map (is_nightly day period) (range_with_len 0 16)

abbrev pub is_first : ℕ → List ℕ → Bool
is_first minute [] = false
is_first minute (first ∷ entries) = first == minute

abbrev pub wakeup_of : List ℕ → ℕ → Wakeup
wakeup_of entries minute =
    if is_first minute entries then Nightly
    else (if list_any (λ entry. entry == minute) entries then Wake else Nothing)
