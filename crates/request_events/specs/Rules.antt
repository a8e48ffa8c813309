-- The rules that a query names.
--     change_in      a new value for each setting whose key the query has
use Rattle.std.specs.Prelude.{ℕ, nat_le, List, [], ◌∷◌, codes, Option, Some, None, Ok, if◌then◌else◌, option_and_then}
use Rattle.std.specs.Option.{option_map, option_map_or}
use Rattle.backup_rules.specs.declared.settings.Setting.{Setting}
use Rattle.backup_rules.specs.Settings.{name_of, least, most, settings}
use Rattle.backup_rules.specs.Values.{RuleChanges}
use Rattle.backup_rules.specs.Changes.{no_change, with_number}
use Rattle.http_query.specs.declared.keys.QueryRule.TheVariants.{Value}
use Rattle.http_query.specs.Numbers.{number_of}
use Rattle.http_query.specs.Query.{Pair, value_of}
use Rattle.rule_texts.specs.Counts.{counts_of}
use Rattle.rule_texts.specs.Periods.{periods_of}
use Rattle.request_events.specs.declared.refusal.RequestRefusal.TheVariants.{BadQuery}
use Rattle.request_events.specs.Said.{Said, ◌>>=◌, or_refuse}

-- the number that a text gives a setting
abbrev pub setting_number : Setting → List ℕ → Option ℕ
setting_number setting text = option_and_then (λ n. if nat_le (least setting) n then Some n else None) (number_of (most setting) text)

-- the change with a setting as the query has it, and as it was where its key is absent
abbrev pub with_setting : Setting → List Pair → RuleChanges → Option RuleChanges
with_setting setting pairs change =
    option_map_or (λ text. option_map (with_number change setting) (setting_number setting text))
    (value_of (name_of setting) pairs) (Some change)

abbrev pub with_settings : List Setting → List Pair → RuleChanges → Option RuleChanges
with_settings [] pairs change = Some change
with_settings (setting ∷ settings) pairs change = option_and_then (with_settings settings pairs) (with_setting setting pairs change)

-- the change with a list in a form where its text is there
abbrev pub with_list : {A : Type 0} → (List ℕ → Option A) → (A → RuleChanges) → RuleChanges → Option (List ℕ) → Said RuleChanges
with_list form named change None = Ok change
with_list form named change (Some text) = or_refuse (BadQuery Value) (form text) >>= λ list. Ok (named list)

abbrev pub with_full_keep_cnt : List Pair → RuleChanges → Said RuleChanges
with_full_keep_cnt pairs change =
    with_list counts_of (λ counts. record change { full_keep_cnt = Some counts }) change (value_of (codes "FullKeepCnt") pairs)

abbrev pub with_blackout_periods : List Pair → RuleChanges → Said RuleChanges
with_blackout_periods pairs change =
    with_list periods_of (λ periods. record change { blackout_periods = Some periods }) change (value_of (codes "BlackoutPeriods") pairs)

abbrev pub with_old_full_keep_cnt : List Pair → RuleChanges → Said RuleChanges
with_old_full_keep_cnt pairs change =
    with_list counts_of (λ counts. record change { old_full_keep_cnt = Some counts }) change (value_of (codes "OldFullKeepCnt") pairs)

unfoldable pub change_in : List Pair → Said RuleChanges
change_in pairs = do
  numbers ← or_refuse (BadQuery Value) (with_settings settings pairs no_change)
  counts ← with_full_keep_cnt pairs numbers
  periods ← with_blackout_periods pairs counts
  with_old_full_keep_cnt pairs periods
