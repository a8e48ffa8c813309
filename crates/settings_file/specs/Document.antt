-- What the document of the settings file says.
--     change_by      the change of the rules by the keys in their order, or the first of a wrong value
--     first_wrong      the first key of a wrong value
--     has_unknown      a key that no setting has
--     IsSettings, IsRefusal      what is read, and what is refused
use Rattle.std.specs.Prelude.{◌≡◌, ℕ, Bool, true, false, not, ◌||◌, if◌then◌else◌, List, [], ◌∷◌, map, codes, bytes_eq, IsUtf8, Option, Some, None, IfSome, option_map, is_some, Result, Ok, Err}
use Rattle.std.specs.List.{list_any}
use Rattle.std.specs.Option.{option_map_or}
use Rattle.toml.specs.Data.{Data, as_str, as_table, Members, no_members, member, get_member}
use Rattle.toml.specs.Parse.{parse_document}
use Rattle.jiff.specs.Words.{read_whole}
use Rattle.backup_rules.specs.Values.{RuleSet, RuleChanges}
use Rattle.backup_rules.specs.Settings.{least, most}
use Rattle.backup_rules.specs.Changes.{default_rules, no_change, with_number, changed}
use Rattle.wake_schedule.specs.Zones.{fixed_of, IsZone}
use Rattle.settings_file.specs.declared.key.RuleKey.{RuleKey}
use Rattle.settings_file.specs.declared.key.RuleKey.TheVariants.{Number, FullKeepCnt, BlackoutPeriods, OldFullKeepCnt}
use Rattle.settings_file.specs.declared.key.Key.{Key}
use Rattle.settings_file.specs.declared.key.Key.TheVariants.{Zone, WakeupSchedule, BackupPCNightlyPeriod, Rules, Rule}
use Rattle.settings_file.specs.declared.fault.SettingsFault.{SettingsFault}
use Rattle.settings_file.specs.declared.fault.SettingsFault.TheVariants.{NotToml, BadKey, UnknownKey, Memory}
use Rattle.settings_file.specs.declared.read.Settings.{Settings}
use Rattle.settings_file.specs.Keys.{key_name, rule_name, rule_keys, top_names, rule_names}
use Rattle.settings_file.specs.Values.{number_in, counts_in, periods_in, wake_in, nightly_in}

-- the value at a key of the file
abbrev pub value_at : Key → Members → Option Data
value_at key document = get_member (key_name key) document

-- ---- the rules

abbrev pub with_value : RuleKey → RuleChanges → Data → Option RuleChanges
with_value (Number setting) change value = option_map (λ n. with_number change setting n) (number_in (least setting) (most setting) value)
with_value FullKeepCnt change value = option_map (λ counts. record change { full_keep_cnt = Some counts }) (counts_in value)
with_value BlackoutPeriods change value = option_map (λ periods. record change { blackout_periods = Some periods }) (periods_in value)
with_value OldFullKeepCnt change value = option_map (λ counts. record change { old_full_keep_cnt = Some counts }) (counts_in value)

-- an absent key changes nothing
abbrev pub with_key : Members → RuleKey → RuleChanges → Option RuleChanges
with_key document key change = option_map_or (with_value key change) (get_member (rule_name key) document) (Some change)

abbrev pub or_wrong : RuleKey → (RuleChanges → Result RuleChanges Key) → Option RuleChanges → Result RuleChanges Key
or_wrong key next None = Err (Rule key)
or_wrong key next (Some change) = next change

abbrev pub change_by : Members → List RuleKey → RuleChanges → Result RuleChanges Key
change_by document [] change = Ok change
change_by document (key ∷ keys) change = or_wrong key (λ further. change_by document keys further) (with_key document key change)

-- the table Rules, which may be absent
abbrev pub rules_in : Option Data → Option Members
rules_in None = Some no_members
rules_in (Some value) = as_table value

abbrev pub change_of : Option Members → Result RuleChanges Key
change_of None = Err Rules
change_of (Some rules) = change_by rules rule_keys no_change

abbrev pub change_in : Members → Result RuleChanges Key
change_in document = change_of (rules_in (value_at Rules document))

-- the default rules, but for the change
abbrev pub AreRulesOf : Result RuleChanges Key → RuleSet → Type 0
AreRulesOf (Ok change) rules = rules ≡ changed default_rules change
AreRulesOf (Err key) rules = ⊥

-- ---- the other keys

abbrev pub zone_text : Option Data → Option (List ℕ)
zone_text None = Some (codes "UTC")
zone_text (Some value) = as_str value

abbrev pub has_zone : List ℕ → Bool
has_zone text = is_some (fixed_of text) || is_some (read_whole text)

abbrev pub is_zone_in : Option Data → Bool
is_zone_in value = option_map_or has_zone (zone_text value) false

-- each hour but midnight
abbrev pub default_schedule : List ℕ
default_schedule =
    60 ∷ 120 ∷ 180 ∷ 240 ∷ 300 ∷ 360 ∷ 420 ∷ 480 ∷ 540 ∷ 600 ∷ 660 ∷ 720 ∷ 780 ∷ 840 ∷ 900 ∷ 960 ∷ 1020 ∷ 1080 ∷ 1140 ∷ 1200 ∷ 1260 ∷ 1320
    ∷ 1380 ∷ []

abbrev pub schedule_in : Option Data → Option (List ℕ)
schedule_in value = option_map_or wake_in value (Some default_schedule)

abbrev pub nights_in : Option Data → Option ℕ
nights_in value = option_map_or nightly_in value (Some 1)

-- ---- the document

-- the key of a value that says nothing
abbrev pub wrong_in : {A : Type 0} → Key → Option A → Option Key
wrong_in key None = Some key
wrong_in key (Some value) = None

abbrev pub wrong_zone : Members → Option Key
wrong_zone document = if is_zone_in (value_at Zone document) then None else Some Zone

abbrev pub wrong_schedule : Members → Option Key
wrong_schedule document = wrong_in WakeupSchedule (schedule_in (value_at WakeupSchedule document))

abbrev pub wrong_nights : Members → Option Key
wrong_nights document = wrong_in BackupPCNightlyPeriod (nights_in (value_at BackupPCNightlyPeriod document))

abbrev pub wrong_of : Result RuleChanges Key → Option Key
wrong_of (Ok change) = None
wrong_of (Err key) = Some key

abbrev pub or_else : Option Key → Option Key → Option Key
or_else None other = other
or_else (Some key) other = Some key

abbrev pub first_wrong : Members → Option Key
first_wrong document = or_else (wrong_zone document) (or_else (wrong_schedule document) (or_else (wrong_nights document) (wrong_of (change_in document))))

abbrev pub names_of : Members → List (List ℕ)
names_of no_members = []
names_of (member name value document) = name ∷ names_of document

-- a name that isn't one of these
abbrev pub is_unknown : List (List ℕ) → List ℕ → Bool
is_unknown known name = not (list_any (bytes_eq name) known)

abbrev pub has_unknown : List (List ℕ) → Members → Bool
has_unknown known document = list_any (is_unknown known) (names_of document)

-- in the file, or in its table Rules
abbrev pub has_unknowns : Members → Bool
has_unknowns document = has_unknown top_names document || option_map_or (has_unknown rule_names) (rules_in (value_at Rules document)) false

-- what the document names, with the defaults for what it doesn't
pub record AreSettings (document : Members) (settings : Settings) : Type 0 where
  pub right : first_wrong document ≡ None
  pub known : has_unknowns document ≡ false
  pub zone : IfSome (zone_text (value_at Zone document)) (λ text. IsZone text settings.zone)
  pub wake : schedule_in (value_at WakeupSchedule document) ≡ Some settings.wake.items
  pub period : nights_in (value_at BackupPCNightlyPeriod document) ≡ Some settings.period
  pub rules : AreRulesOf (change_in document) settings.rules

pub record IsSettings (bytes : List ℕ) (settings : Settings) : Type 0 where
  pub utf8 : IsUtf8 bytes
  pub document : Members
  pub parsed : parse_document bytes ≡ Some document
  pub are : AreSettings document settings

-- what is wrong with a document
abbrev pub IsFault : Members → SettingsFault → Type 0
IsFault document NotToml = ⊥
IsFault document (BadKey key) = first_wrong document ≡ Some key
IsFault document UnknownKey = (first_wrong document ≡ None) × (has_unknowns document ≡ true)
IsFault document Memory = Unit {0}

pub record IsFaulty (bytes : List ℕ) (fault : SettingsFault) : Type 0 where
  pub utf8 : IsUtf8 bytes
  pub document : Members
  pub parsed : parse_document bytes ≡ Some document
  pub is : IsFault document fault

-- the bytes are no TOML document, or one with a fault
abbrev pub IsRefusal : List ℕ → SettingsFault → Type 0
IsRefusal bytes NotToml = IsUtf8 bytes → parse_document bytes ≡ None
IsRefusal bytes (BadKey key) = IsFaulty bytes (BadKey key)
IsRefusal bytes UnknownKey = IsFaulty bytes UnknownKey
IsRefusal bytes Memory = Unit {0}

-- a fault of the key of a wrong value, or want of memory
abbrev pub IsFaultOf : Option Key → SettingsFault → Type 0
IsFaultOf wrong (BadKey key) = wrong ≡ Some key
IsFaultOf wrong Memory = Unit {0}
IsFaultOf wrong fault = ⊥

-- no table is read
abbrev pub IsNoTable : List ℕ → SettingsFault → Type 0
IsNoTable bytes NotToml = IsUtf8 bytes → parse_document bytes ≡ None
IsNoTable bytes Memory = Unit {0}
IsNoTable bytes fault = ⊥
