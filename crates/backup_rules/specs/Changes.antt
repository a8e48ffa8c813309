-- The default rules, and rules after a change.
--     default_rules      the rules of a host of which nothing is said
--     no_change, with_number      a change that names nothing;  the change that also names this setting
--     changed      each setting that the change names has its new value, each other the one that it had
use Rattle.std.specs.Prelude.{ℕ, List, [], ◌∷◌, map, slice_set, Option, Some, None, unwrap_or}
use Rattle.backup_rules.specs.declared.settings.Setting.{Setting}
use Rattle.backup_rules.specs.Settings.{settings, index_of, default_of}
use Rattle.backup_rules.specs.Values.{Span, RuleSet, RuleChanges, number_at, named_at}

-- from 7:00 up to 19:30, Monday to Friday
abbrev pub default_period : Span
default_period = record { begin = 420; end = 1170; weekdays = 62 }

-- one backup at the least distance
abbrev pub default_counts : List ℕ
default_counts = 1 ∷ []

abbrev pub default_numbers : List ℕ
default_numbers = map default_of settings

abbrev pub default_rules : RuleSet
default_rules = record {
  numbers = default_numbers;
  full_keep_cnt = default_counts;
  blackout_periods = default_period ∷ [];
  old_full_keep_cnt = default_counts;
}

abbrev pub none_named : List (Option ℕ)
none_named = map (λ _. None) settings

abbrev pub no_change : RuleChanges
no_change = record { numbers = none_named; full_keep_cnt = None; blackout_periods = None; old_full_keep_cnt = None }

abbrev pub with_named : List (Option ℕ) → Setting → ℕ → List (Option ℕ)
with_named named setting n = slice_set named (index_of setting) (Some n)

abbrev pub with_number : RuleChanges → Setting → ℕ → RuleChanges
with_number change setting n = record change { numbers = with_named change.numbers setting n }

-- the new number of a setting, if one is named, or else the one that it had
unfoldable pub changed_number : List (Option ℕ) → List ℕ → Setting → ℕ
changed_number named numbers setting = unwrap_or (named_at named setting) (number_at numbers setting)

abbrev pub changed_numbers : List (Option ℕ) → List ℕ → List ℕ
changed_numbers named numbers = map (changed_number named numbers) settings

abbrev pub changed : RuleSet → RuleChanges → RuleSet
changed rules change = record {
  numbers = changed_numbers change.numbers rules.numbers;
  full_keep_cnt = unwrap_or change.full_keep_cnt rules.full_keep_cnt;
  blackout_periods = unwrap_or change.blackout_periods rules.blackout_periods;
  old_full_keep_cnt = unwrap_or change.old_full_keep_cnt rules.old_full_keep_cnt;
}
