-- The keys of the settings file.
--     rule_name, key_name      their names
--     rule_keys      those of the table Rules, in their order
use Rattle.std.specs.Prelude.{ℕ, List, [], ◌∷◌, map, codes}
use Rattle.backup_rules.specs.declared.settings.Setting.TheVariants.{FillCycle, FullPeriod, IncrPeriod, FullKeepCntMin, FullAgeMax, IncrKeepCnt, IncrKeepCntMin, IncrAgeMax, BlackoutGoodCnt, BlackoutBadPingLimit, OldAge, OldIncrKeepCnt}
use Rattle.backup_rules.specs.Settings.{name_of}
use Rattle.settings_file.specs.declared.key.RuleKey.{RuleKey}
use Rattle.settings_file.specs.declared.key.RuleKey.TheVariants.{Number, FullKeepCnt, BlackoutPeriods, OldFullKeepCnt}
use Rattle.settings_file.specs.declared.key.Key.{Key}
use Rattle.settings_file.specs.declared.key.Key.TheVariants.{Zone, WakeupSchedule, BackupPCNightlyPeriod, Rules, Rule}

abbrev pub rule_name : RuleKey → List ℕ
rule_name (Number setting) = name_of setting
rule_name FullKeepCnt = codes "FullKeepCnt"
rule_name BlackoutPeriods = codes "BlackoutPeriods"
rule_name OldFullKeepCnt = codes "OldFullKeepCnt"

abbrev pub key_name : Key → List ℕ
key_name Zone = codes "Zone"
key_name WakeupSchedule = codes "WakeupSchedule"
key_name BackupPCNightlyPeriod = codes "BackupPCNightlyPeriod"
key_name Rules = codes "Rules"
key_name (Rule key) = rule_name key

abbrev pub rule_keys : List RuleKey
rule_keys =
    Number FillCycle ∷ Number FullPeriod ∷ Number IncrPeriod ∷ FullKeepCnt ∷ Number FullKeepCntMin ∷ Number FullAgeMax ∷ Number IncrKeepCnt
    ∷ Number IncrKeepCntMin ∷ Number IncrAgeMax ∷ Number BlackoutGoodCnt ∷ Number BlackoutBadPingLimit ∷ BlackoutPeriods ∷ Number OldAge
    ∷ OldFullKeepCnt ∷ Number OldIncrKeepCnt ∷ []

-- the names in the file, and in the table Rules
abbrev pub top_names : List (List ℕ)
top_names = map key_name (Zone ∷ WakeupSchedule ∷ BackupPCNightlyPeriod ∷ Rules ∷ [])

abbrev pub rule_names : List (List ℕ)
rule_names = map rule_name rule_keys
