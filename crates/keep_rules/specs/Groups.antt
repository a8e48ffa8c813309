-- The groups of candidates, and what each is judged by.
--     exceeds      an age, as a signed difference, is above a number of seconds
--     is_in, is_filled_in, is_unfilled_in      the lines of a group
--     counts_of, unfilled_of      its two counts
use Rattle.std.specs.Prelude.{ℕ, ◌+◌, ◌*◌, ◌==◌, nat_lt, Bool, not, ◌&&◌, if◌then◌else◌, List}
use Rattle.backup_rules.specs.declared.lines.Line.{Line}
use Rattle.backup_rules.specs.declared.settings.Setting.TheVariants.{FillCycle, FullPeriod, IncrKeepCnt, OldAge, OldIncrKeepCnt}
use Rattle.backup_rules.specs.Values.{RuleSet, number_of}
use Rattle.keep_rules.specs.declared.groups.Group.{Group}
use Rattle.keep_rules.specs.declared.groups.Group.TheVariants.{Recent, Old}

-- the seconds of so many days
abbrev pub days : ℕ → ℕ
days count = count * 86400

-- now - start > seconds, for signed numbers
abbrev pub exceeds : ℕ → ℕ → Line → Bool
exceeds now seconds line = nat_lt (line.start + seconds) now

-- old is what exceeds OldAge days; without OldAge nothing is
abbrev pub is_old : RuleSet → ℕ → Line → Bool
is_old rules now line = not (number_of rules OldAge == 0) && exceeds now (days (number_of rules OldAge)) line

abbrev pub is_side : Group → Bool → Bool
is_side Recent old = not old
is_side Old old = old

-- what is kept whatever the rules say is in no group
unfoldable pub is_in : RuleSet → ℕ → Group → Line → Bool
is_in rules now group line = not line.keep && is_side group (is_old rules now line)

abbrev pub is_filled_in : RuleSet → ℕ → Group → Line → Bool
is_filled_in rules now group line = is_in rules now group line && line.filled

abbrev pub is_unfilled_in : RuleSet → ℕ → Group → Line → Bool
is_unfilled_in rules now group line = is_in rules now group line && not line.filled

-- FullKeepCnt, or OldFullKeepCnt
abbrev pub counts_of : RuleSet → Group → List ℕ
counts_of rules Recent = rules.full_keep_cnt
counts_of rules Old = rules.old_full_keep_cnt

-- IncrKeepCnt, or OldIncrKeepCnt
abbrev pub unfilled_of : RuleSet → Group → ℕ
unfilled_of rules Recent = number_of rules IncrKeepCnt
unfilled_of rules Old = number_of rules OldIncrKeepCnt

-- the seconds of a cycle of filled backups
abbrev pub cycle_of : RuleSet → ℕ
cycle_of rules = if number_of rules FillCycle == 0 then number_of rules FullPeriod else days (number_of rules FillCycle)
