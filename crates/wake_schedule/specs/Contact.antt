-- Whether a host is left alone, and which dump of it is due.
--     holds, blackout_of      blackout
--     is_since, is_no_full_since, due_of      the dump that is due
use Rattle.std.specs.Prelude.{ℕ, ◌+◌, ◌/◌, ◌%◌, ◌^◌, ◌==◌, nat_lt, nat_le, Bool, not, ◌&&◌, ◌||◌, if◌then◌else◌, List, Option, Some, None}
use Rattle.std.specs.List.{list_any, list_all}
use Rattle.backup_rules.specs.declared.lines.Kind.{Kind}
use Rattle.backup_rules.specs.declared.lines.Kind.TheVariants.{Full, Incr}
use Rattle.backup_rules.specs.declared.lines.Line.{Line}
use Rattle.backup_rules.specs.declared.settings.Setting.TheVariants.{FullPeriod, IncrPeriod, BlackoutGoodCnt}
use Rattle.backup_rules.specs.Values.{Span, RuleSet, number_of}
use Rattle.backup_rules.specs.Fill.{is_full}
use Rattle.wake_schedule.specs.declared.zone.Local.{Local}

-- ---- blackout

-- the bit of a weekday
abbrev pub has_weekday : Span → ℕ → Bool
has_weekday period weekday = period.weekdays / 2 ^ weekday % 2 == 1

abbrev pub day_before : ℕ → ℕ
day_before weekday = (weekday + 6) % 7

-- from begin on up to end, without it; a period that passes midnight goes on to end on the day after
abbrev pub holds : Local → Span → Bool
holds local period =
    if nat_lt period.begin period.end
    then has_weekday period local.weekday && nat_le period.begin local.minute && nat_lt local.minute period.end
    else ((has_weekday period local.weekday && nat_le period.begin local.minute)
    || (has_weekday period (day_before local.weekday) && nat_lt local.minute period.end))

-- after so many good contacts, in a period
abbrev pub blackout_of : RuleSet → ℕ → Local → Bool
blackout_of rules good local = nat_le (number_of rules BlackoutGoodCnt) good && list_any (holds local) rules.blackout_periods

-- ---- due

-- now - start >= seconds, for signed numbers
abbrev pub is_since : ℕ → ℕ → Line → Bool
is_since now seconds line = nat_le (line.start + seconds) now

abbrev pub is_no_full_since : ℕ → ℕ → Line → Bool
is_no_full_since now seconds line = not (is_full line.kind) || is_since now seconds line

-- no dump since IncrPeriod; then a full, if no full since FullPeriod
abbrev pub due_of : RuleSet → ℕ → List Line → Option Kind
due_of rules now lines =
    if list_all (is_since now (number_of rules IncrPeriod)) lines
    then (if list_all (is_no_full_since now (number_of rules FullPeriod)) lines then Some Full else Some Incr)
    else None
