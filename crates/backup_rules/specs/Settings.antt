-- The settings that are one number, as one table.
--     row_of      the name of a setting, its range and its default
--     settings, index_of, setting_at      all of them in their order, and where each stands
use Rattle.std.specs.Prelude.{ℕ, List, [], ◌∷◌, codes, get_or}
use Rattle.backup_rules.specs.declared.settings.Setting.{Setting}
use Rattle.backup_rules.specs.declared.settings.Setting.TheVariants.{FillCycle, FullPeriod, IncrPeriod, FullKeepCntMin, FullAgeMax, IncrKeepCnt, IncrKeepCntMin, IncrAgeMax, BlackoutGoodCnt, BlackoutBadPingLimit, OldAge, OldIncrKeepCnt}

pub record Row : Type 0 where
  pub name : List ℕ
  pub least : ℕ
  pub most : ℕ
  pub default : ℕ

abbrev row : List ℕ → ℕ → ℕ → ℕ → Row
row name least most default = record { name = name; least = least; most = most; default = default }

abbrev pub row_of : Setting → Row
row_of FillCycle = row (codes "FillCycle") 0 3650 0
row_of FullPeriod = row (codes "FullPeriod") 1 315360000 602208
row_of IncrPeriod = row (codes "IncrPeriod") 1 315360000 83808
row_of FullKeepCntMin = row (codes "FullKeepCntMin") 0 1000000 1
row_of FullAgeMax = row (codes "FullAgeMax") 1 36500 180
row_of IncrKeepCnt = row (codes "IncrKeepCnt") 0 1000000 6
row_of IncrKeepCntMin = row (codes "IncrKeepCntMin") 0 1000000 1
row_of IncrAgeMax = row (codes "IncrAgeMax") 1 36500 30
row_of BlackoutGoodCnt = row (codes "BlackoutGoodCnt") 0 1000000 7
row_of BlackoutBadPingLimit = row (codes "BlackoutBadPingLimit") 1 1000000 3
row_of OldAge = row (codes "OldAge") 0 36500 0
row_of OldIncrKeepCnt = row (codes "OldIncrKeepCnt") 0 1000000 0

abbrev pub name_of : Setting → List ℕ
name_of setting = (row_of setting).name

abbrev pub least : Setting → ℕ
least setting = (row_of setting).least

abbrev pub most : Setting → ℕ
most setting = (row_of setting).most

abbrev pub default_of : Setting → ℕ
default_of setting = (row_of setting).default

abbrev pub settings : List Setting
settings =
    FillCycle ∷ FullPeriod ∷ IncrPeriod ∷ FullKeepCntMin ∷ FullAgeMax ∷ IncrKeepCnt ∷ IncrKeepCntMin ∷ IncrAgeMax ∷ BlackoutGoodCnt
    ∷ BlackoutBadPingLimit ∷ OldAge ∷ OldIncrKeepCnt ∷ []

abbrev pub index_of : Setting → ℕ
index_of FillCycle = 0
index_of FullPeriod = 1
index_of IncrPeriod = 2
index_of FullKeepCntMin = 3
index_of FullAgeMax = 4
index_of IncrKeepCnt = 5
index_of IncrKeepCntMin = 6
index_of IncrAgeMax = 7
index_of BlackoutGoodCnt = 8
index_of BlackoutBadPingLimit = 9
index_of OldAge = 10
index_of OldIncrKeepCnt = 11

abbrev pub setting_at : ℕ → Setting
setting_at i = get_or settings i FillCycle
