-- What the text of a time zone says.
--     fixed_of      UTC, +HH:MM or -HH:MM up to 14:59: the seconds that its clock is ahead of UTC
--     IsOfADay      what it says at most
--     IsZone, IsZoneText      the zone of a text, which may be a POSIX rule, and whether it has one
--     ahead_at      the seconds that a zone's clock is ahead of UTC at a moment
use Rattle.std.specs.Prelude.{◌≡◌, ℕ, ℤ, pos, neg_ℤ, ◌*ℤ◌, ◌≤ℤ◌, ◌+◌, ◌-◌, ◌*◌, ◌==◌, nat_le, ◌&&◌, ◌||◌, if◌then◌else◌, List, [], ◌∷◌, codes, bytes_eq, Option, Some, None, option_and_then, MatchOption, is_some, IsTrue}
use Rattle.jiff.specs.Words.{plain_zone, offset_at, read_whole}
use Rattle.jiff.specs.Placed.{IsPosixZone}
use Rattle.wake_schedule.specs.declared.zone.Zone.{Zone}

-- the number of two digits, if it is at most this
abbrev pub two_digits : ℕ → ℕ → ℕ → Option ℕ
two_digits most tens ones =
    if nat_le 48 tens && nat_le tens 57 && nat_le 48 ones && nat_le ones 57 && nat_le ((tens - 48) * 10 + (ones - 48)) most
    then Some ((tens - 48) * 10 + (ones - 48))
    else None

-- a plus or a minus, and seconds
abbrev pub signed_by : ℕ → ℕ → Option ℤ
signed_by sign seconds = if sign == 43 then Some (pos seconds) else (if sign == 45 then Some (neg_ℤ (pos seconds)) else None)

-- a sign, hours, a colon and minutes
abbrev pub offset_from : ℕ → ℕ → ℕ → ℕ → ℕ → ℕ → Option ℤ
offset_from sign a b colon c d =
    if colon == 58
    then option_and_then (λ hours. option_and_then (λ minutes. signed_by sign (hours * 3600 + minutes * 60)) (two_digits 59 c d)) (two_digits 14 a b)
    else None

abbrev pub offset_of : List ℕ → Option ℤ
offset_of (sign ∷ a ∷ b ∷ colon ∷ c ∷ d ∷ []) = offset_from sign a b colon c d
offset_of text = None

abbrev pub fixed_of : List ℕ → Option ℤ
fixed_of text = if bytes_eq text (codes "UTC") then Some (pos 0) else offset_of text

-- at most 14:59 to either side
abbrev pub IsOfADay : ℤ → Type 0
IsOfADay seconds = (neg_ℤ (pos 53940) ≤ℤ seconds) × (seconds ≤ℤ pos 53940)

-- the seconds that the clock of a zone is ahead of UTC
unfoldable pub ahead_at : Zone → ℕ → ℤ
ahead_at zone now = offset_at (plain_zone zone.zone) (pos now *ℤ pos 1000000000)

-- always so far ahead, or as the POSIX rule says
abbrev pub IsZone : List ℕ → Zone → Type 0
IsZone text zone = MatchOption (fixed_of text) (IsPosixZone text (plain_zone zone.zone)) (λ ahead. (now : ℕ) → ahead_at zone now ≡ ahead)

abbrev pub IsZoneText : List ℕ → Type 0
IsZoneText text = IsTrue (is_some (fixed_of text) || is_some (read_whole text))
