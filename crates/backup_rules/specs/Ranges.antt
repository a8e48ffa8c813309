-- The ranges of the settings.
--     IsOf      of a setting that is one number
--     IsKeepCounts, IsPeriod, ArePeriods      of the lists, and of their items
--     IsRules, IsChange      each setting is in its range;  each that is named
use Rattle.std.specs.Prelude.{◌≡◌, ◌≢◌, ℕ, ◌≤◌, nat_le, nat_eq, Bool, ◌&&◌, not, if◌then◌else◌, List, length, Option, Some, None, IfSome}
use Rattle.std.specs.List.{AllByRecursion, list_all}
use Rattle.backup_rules.specs.declared.settings.Setting.{Setting}
use Rattle.backup_rules.specs.Settings.{least, most}
use Rattle.backup_rules.specs.Values.{Span, RuleSet, RuleChanges, number_at, named_at}

abbrev pub IsWithin : ℕ → ℕ → ℕ → Type 0
IsWithin low high n = (low ≤ n) × (n ≤ high)

-- a number in the range of a setting
abbrev pub IsOf : Setting → ℕ → Type 0
IsOf setting = IsWithin (least setting) (most setting)

-- a number for each setting, in its range
pub record AreNumbers (numbers : List ℕ) : Type 0 where
  pub counted : length numbers ≡ 12
  pub each : (setting : Setting) → IsOf setting (number_at numbers setting)

-- a number in its range for each setting that is named
pub record AreNamed (named : List (Option ℕ)) : Type 0 where
  pub counted : length named ≡ 12
  pub each : (setting : Setting) → IfSome (named_at named setting) (IsOf setting)

-- how many fulls are kept at one distance
abbrev pub IsKeepCount : ℕ → Type 0
IsKeepCount n = n ≤ 1000

-- one to sixteen of them
pub record IsKeepCounts (counts : List ℕ) : Type 0 where
  pub some : 1 ≤ length counts
  pub few : length counts ≤ 16
  pub each : AllByRecursion IsKeepCount counts

-- two minutes of the day that differ, and at least one weekday
pub record IsPeriod (period : Span) : Type 0 where
  pub begin : period.begin ≤ 1439
  pub end : period.end ≤ 1439
  pub differ : period.begin ≢ period.end
  pub some : 1 ≤ period.weekdays
  pub weekdays : period.weekdays ≤ 127

-- at most sixteen periods
pub record ArePeriods (periods : List Span) : Type 0 where
  pub few : length periods ≤ 16
  pub each : AllByRecursion IsPeriod periods

-- each setting is in its range
pub record IsRules (rules : RuleSet) : Type 0 where
  pub numbers : AreNumbers rules.numbers
  pub full_keep_cnt : IsKeepCounts rules.full_keep_cnt
  pub blackout_periods : ArePeriods rules.blackout_periods
  pub old_full_keep_cnt : IsKeepCounts rules.old_full_keep_cnt

-- each setting that the change names is in its range
pub record IsChange (change : RuleChanges) : Type 0 where
  pub numbers : AreNamed change.numbers
  pub full_keep_cnt : IfSome change.full_keep_cnt IsKeepCounts
  pub blackout_periods : IfSome change.blackout_periods ArePeriods
  pub old_full_keep_cnt : IfSome change.old_full_keep_cnt IsKeepCounts

-- ---- the same as tests

abbrev pub are_keep_counts : List ℕ → Bool
are_keep_counts counts = nat_le 1 (length counts) && nat_le (length counts) 16 && list_all (λ n. nat_le n 1000) counts

abbrev pub is_period : Span → Bool
is_period period =
    nat_le period.begin 1439 && nat_le period.end 1439 && not (nat_eq period.begin period.end) && nat_le 1 period.weekdays && nat_le period.weekdays 127

-- the same numbers, or the same period, where they are in range
abbrev pub if_keep_counts : List ℕ → Option (List ℕ)
if_keep_counts counts = if are_keep_counts counts then Some counts else None

abbrev pub if_period : Span → Option Span
if_period period = if is_period period then Some period else None
