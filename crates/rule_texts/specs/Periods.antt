-- What the text of BlackoutPeriods says.
--     weekdays_of      rising digits, as the bits of a number
--     period_of      B-E:days
--     periods_of      at most sixteen of these, with a semicolon between each two
use Rattle.std.specs.Prelude.{ℕ, ◌+◌, ◌-◌, ◌^◌, ◌==◌, nat_le, Bool, ◌&&◌, if◌then◌else◌, List, [], ◌∷◌, length, Option, Some, None, option_map, option_and_then}
use Rattle.std.specs.List.{before_first, after_first, slice_split}
use Rattle.http_query.specs.Numbers.{number_of}
use Rattle.backup_rules.specs.Values.{Span}
use Rattle.backup_rules.specs.Ranges.{if_period}

-- each digit is at least this one, and at most 6; the bits begin at this number
abbrev pub weekdays_from : ℕ → ℕ → List ℕ → Option ℕ
weekdays_from bits least [] = Some bits
weekdays_from bits least (digit ∷ text) =
    if nat_le least digit && nat_le digit 54 then weekdays_from (bits + 2 ^ (digit - 48)) (digit + 1) text else None

abbrev pub weekdays_of : List ℕ → Option ℕ
weekdays_of text = weekdays_from 0 48 text

abbrev pub period_from : List ℕ → List ℕ → List ℕ → Option Span
period_from begins ends days =
    option_and_then (λ begin. option_and_then (λ end. option_and_then (λ weekdays.
    if_period (record { begin = begin; end = end; weekdays = weekdays }))
    (weekdays_of days)) (number_of 1439 ends)) (number_of 1439 begins)

abbrev pub is_dash : ℕ → Bool
is_dash byte = byte == 45

abbrev pub is_colon : ℕ → Bool
is_colon byte = byte == 58

unfoldable pub period_of : List ℕ → Option Span
period_of text = period_from (before_first is_dash text) (before_first is_colon (after_first is_dash text)) (after_first is_colon (after_first is_dash text))

-- what each piece says, if each says something
abbrev pub each_of : {A : Type 0} → (List ℕ → Option A) → List (List ℕ) → Option (List A)
each_of read [] = Some []
each_of read (piece ∷ pieces) = option_and_then (λ first. option_map (λ others. first ∷ others) (each_of read pieces)) (read piece)

abbrev pub few_of : Option (List Span) → Option (List Span)
few_of periods = option_and_then (λ all. if nat_le (length all) 16 then Some all else None) periods

abbrev pub periods_of : List ℕ → Option (List Span)
periods_of [] = Some []
periods_of (byte ∷ text) = few_of (each_of period_of (slice_split (λ b. b == 59) (byte ∷ text)))
