-- The rules of a host, a change of them and a blackout period, as values.
use Rattle.std.specs.Prelude.{ℕ, List, Option, None, get_or}
use Rattle.backup_rules.specs.declared.settings.Setting.{Setting}
use Rattle.backup_rules.specs.Settings.{index_of}

-- Minutes of the day from begin up to end, on some weekdays: bit w of the number stands for weekday w, and 0 is Sunday.
pub record Span : Type 0 where
  pub begin : ℕ
  pub end : ℕ
  pub weekdays : ℕ

-- the rules of a host: the settings that are one number, in their order, and those that are lists
pub record RuleSet : Type 0 where
  pub numbers : List ℕ
  pub full_keep_cnt : List ℕ
  pub blackout_periods : List Span
  pub old_full_keep_cnt : List ℕ

-- a new value for each setting that a change names
pub record RuleChanges : Type 0 where
  pub numbers : List (Option ℕ)
  pub full_keep_cnt : Option (List ℕ)
  pub blackout_periods : Option (List Span)
  pub old_full_keep_cnt : Option (List ℕ)

-- the number that stands at a setting
abbrev pub number_at : List ℕ → Setting → ℕ
number_at numbers setting = get_or numbers (index_of setting) 0

-- the new number that is named for a setting
abbrev pub named_at : List (Option ℕ) → Setting → Option ℕ
named_at named setting = get_or named (index_of setting) None

-- a setting of one number
abbrev pub number_of : RuleSet → Setting → ℕ
number_of rules setting = number_at rules.numbers setting

-- the rules that are made of these parts
abbrev pub rules_from : List ℕ → List ℕ → List Span → List ℕ → RuleSet
rules_from numbers counts periods old_counts = record { numbers = numbers; full_keep_cnt = counts; blackout_periods = periods; old_full_keep_cnt = old_counts }

-- the change that is made of these parts
abbrev pub change_from : List (Option ℕ) → Option (List ℕ) → Option (List Span) → Option (List ℕ) → RuleChanges
change_from named counts periods old_counts = record { numbers = named; full_keep_cnt = counts; blackout_periods = periods; old_full_keep_cnt = old_counts }
