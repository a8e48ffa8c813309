-- The parts of rules that stand one behind the other, and their layouts.
--     early_grammar      the settings up to BlackoutPeriods
--     old_grammar      those of old backups
use Rattle.std.specs.Prelude.{ℕ, List, [], ◌∷◌, ◌++◌, length}
use Rattle.std.specs.Int.{w8, w16, w32}
use Rattle.wire_bytes.specs.Layout.{number_bytes}
use Rattle.wire_bytes.specs.Grammar.{Grammar, number, followed_by, seen_as, items_of}
use Rattle.backup_rules.specs.Values.{Span, RuleSet, rules_from}
use Rattle.backup_rules.specs.Ranges.{IsWithin, IsKeepCount, IsKeepCounts, IsPeriod, ArePeriods}
use Rattle.backup_rules.specs.Changes.{default_counts}
use Rattle.backup_rules.specs.Runs.{run, RunFits}
use Rattle.backup_rules.specs.RunLaws.{joined}
use Rattle.backup_rules.specs.ListLaws.{counts_are, periods_are, sees_list}

-- so many numbers, for the settings from this one on
abbrev pub run_grammar : ℕ → ℕ → Grammar (List ℕ)
run_grammar first count = items_of (RunFits first) (number_bytes w32) count

-- a list of numbers of filled backups: how many there are, and each
abbrev pub counts_grammar : Grammar (List ℕ)
counts_grammar = seen_as (followed_by (number w8 (IsWithin 1 16)) (items_of (λ _. IsKeepCount) (number_bytes w32))) IsKeepCounts (λ xs. (length xs, xs)) (λ p. p.1) (sees_list (number_bytes w32) counts_are)

unfoldable pub period_bytes : Span → List ℕ
period_bytes period = number_bytes w16 period.begin ++ (number_bytes w16 period.end ++ number_bytes w8 period.weekdays)

abbrev pub periods_grammar : Grammar (List Span)
periods_grammar = seen_as (followed_by (number w8 (IsWithin 0 16)) (items_of (λ _. IsPeriod) period_bytes)) ArePeriods (λ xs. (length xs, xs)) (λ p. p.1) (sees_list period_bytes periods_are)

-- ---- the settings up to BlackoutPeriods

abbrev pub Early : Type 0
Early = List ℕ × (List ℕ × (List ℕ × List Span))

abbrev pub early_grammar : Grammar Early
early_grammar = followed_by (run_grammar 0 3) (λ _. followed_by counts_grammar (λ _. followed_by (run_grammar 3 7) (λ _. periods_grammar)))

-- ---- the settings of old backups

abbrev pub Old : Type 0
Old = List ℕ × (List ℕ × List ℕ)

abbrev pub old_grammar : Grammar Old
old_grammar = followed_by (run_grammar 10 1) (λ _. followed_by counts_grammar (λ _. run_grammar 11 1))

-- no backup is old
abbrev pub none_old : Old
none_old = (0 ∷ [], (default_counts, 0 ∷ []))

-- ---- rules

abbrev pub early_of : RuleSet → Early
early_of rules = (run 0 3 rules.numbers, (rules.full_keep_cnt, (run 3 7 rules.numbers, rules.blackout_periods)))

abbrev pub old_of : RuleSet → Old
old_of rules = (run 10 1 rules.numbers, (rules.old_full_keep_cnt, run 11 1 rules.numbers))

abbrev pub rules_of : Early → Old → RuleSet
rules_of early old = rules_from (joined early.0 early.1.1.0 old.0 old.1.1) early.1.0 early.1.1.1 old.1.0
