-- The numbers of settings after a change.
--     changed_at      of each setting the new number, or the one that it had
--     changed_all      all of them are
use Rattle.std.proofs.Common.{◌≡◌, ℕ, ◌≤◌, List, length, take, Option, refl, sym, ◌∙◌, arith}
use Rattle.std.proofs.lemmas.List.{take_all}
use Rattle.backup_rules.specs.declared.settings.Setting.{Setting}
use Rattle.backup_rules.specs.declared.settings.Setting.TheVariants.{FillCycle, FullPeriod, IncrPeriod, FullKeepCntMin, FullAgeMax, IncrKeepCnt, IncrKeepCntMin, IncrAgeMax, BlackoutGoodCnt, BlackoutBadPingLimit, OldAge, OldIncrKeepCnt}
use Rattle.backup_rules.specs.Values.{number_at}
use Rattle.backup_rules.specs.Changes.{changed_number, changed_numbers}

pub changed_at : (named : List (Option ℕ)) (numbers : List ℕ) (setting : Setting) → number_at (changed_numbers named numbers) setting ≡ changed_number named numbers setting
changed_at named numbers FillCycle = refl
changed_at named numbers FullPeriod = refl
changed_at named numbers IncrPeriod = refl
changed_at named numbers FullKeepCntMin = refl
changed_at named numbers FullAgeMax = refl
changed_at named numbers IncrKeepCnt = refl
changed_at named numbers IncrKeepCntMin = refl
changed_at named numbers IncrAgeMax = refl
changed_at named numbers BlackoutGoodCnt = refl
changed_at named numbers BlackoutBadPingLimit = refl
changed_at named numbers OldAge = refl
changed_at named numbers OldIncrKeepCnt = refl

-- all are
pub changed_all : (named : List (Option ℕ)) (old numbers : List ℕ) (i : ℕ) → take i numbers ≡ take i (changed_numbers named old) → 12 ≤ i → length numbers ≡ 12 → numbers ≡ changed_numbers named old
changed_all named old numbers i so_far all counted = sym (take_all i numbers (omega arith)) ∙ so_far ∙ take_all i (changed_numbers named old) all
