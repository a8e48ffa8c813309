-- What the values of the settings file say: None is a wrong value.
--     number_in, numbers_in      numbers of a range
--     counts_in, periods_in, wake_in, nightly_in      the lists, and the number of nights
use Rattle.std.specs.Prelude.{ℕ, ℤ, pos, negsuc, ◌==◌, nat_le, Bool, ◌&&◌, ◌||◌, if◌then◌else◌, List, [], ◌∷◌, length, Option, Some, None, option_map, option_and_then}
use Rattle.std.specs.Option.{option_map_or}
use Rattle.toml.specs.Data.{Data, Items, no_items, item, as_integer, as_str, as_array}
use Rattle.backup_rules.specs.Values.{Span}
use Rattle.backup_rules.specs.Ranges.{if_keep_counts}
use Rattle.rule_texts.specs.Periods.{periods_of}

-- the number, if it lies in the range
abbrev pub within : ℕ → ℕ → ℤ → Option ℕ
within least most (pos n) = if nat_le least n && nat_le n most then Some n else None
within least most (negsuc n) = None

abbrev pub number_in : ℕ → ℕ → Data → Option ℕ
number_in least most value = option_and_then (within least most) (as_integer value)

-- numbers that all lie in the range
abbrev pub numbers_in : ℕ → ℕ → Items → Option (List ℕ)
numbers_in least most no_items = Some []
numbers_in least most (item first others) =
    option_and_then (λ n. option_map (λ ns. n ∷ ns) (numbers_in least most others)) (number_in least most first)

-- a single number is a list of one
abbrev pub count_list : Data → Option (List ℕ)
count_list value = option_map_or (numbers_in 0 1000) (as_array value) (option_map (λ n. n ∷ []) (number_in 0 1000 value))

-- 1 to 16 numbers of at most 1,000
abbrev pub counts_in : Data → Option (List ℕ)
counts_in value = option_and_then if_keep_counts (count_list value)

abbrev pub periods_in : Data → Option (List Span)
periods_in value = option_and_then periods_of (as_str value)

-- 1 to 24 minutes of the day
abbrev pub if_schedule : List ℕ → Option (List ℕ)
if_schedule minutes = if nat_le 1 (length minutes) && nat_le (length minutes) 24 then Some minutes else None

abbrev pub wake_in : Data → Option (List ℕ)
wake_in value = option_and_then if_schedule (option_and_then (numbers_in 0 1439) (as_array value))

-- a number of nights that divides sixteen
abbrev pub if_nights : ℕ → Option ℕ
if_nights n = if n == 1 || n == 2 || n == 4 || n == 8 || n == 16 then Some n else None

abbrev pub nightly_in : Data → Option ℕ
nightly_in value = option_and_then if_nights (number_in 1 16 value)
