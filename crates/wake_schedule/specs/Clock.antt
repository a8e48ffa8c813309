-- What a clock shows.
--     local_at      a number of seconds as a day, a minute of it and a weekday
--     local_of      a moment on the clock that is so far ahead of UTC
use Rattle.std.specs.Prelude.{ℕ, ℤ, pos, ◌+ℤ◌, ◌/◌, unsigned_abs}
use Rattle.std.specs.Int.{int_div_euclid, int_rem_euclid}
use Rattle.wake_schedule.specs.declared.zone.Local.{Local}

-- day 0 is a Thursday, and weekday 0 a Sunday
abbrev pub local_at : ℤ → Local
local_at seconds = record {
  day = int_div_euclid seconds (pos 86400);
  minute = unsigned_abs (int_rem_euclid seconds (pos 86400)) / 60;
  weekday = unsigned_abs (int_rem_euclid (int_div_euclid seconds (pos 86400) +ℤ pos 4) (pos 7));
}

abbrev pub local_of : ℕ → ℤ → Local
local_of now ahead = local_at (pos now +ℤ ahead)
