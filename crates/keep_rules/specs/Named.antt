-- What the keeping rules name.
--     candidates      all backups but the newest; those that are kept whatever the rules say are in no group
--     raised_of      the age that a filled backup may reach
--     Rise, rise_from      numbers strictly rise
--     AreNamed      each flag says whether the rules name the backup of its index
use Rattle.std.specs.Prelude.{◌≡◌, ℕ, ◌+◌, ◌-◌, ◌*◌, ◌≤◌, nat_le, max, Bool, true, false, not, ◌&&◌, ◌||◌, if◌then◌else◌, List, [], ◌∷◌, ◌++◌, length, take, get_or}
use Rattle.std.specs.List.{count_by}
use Rattle.backup_rules.specs.declared.lines.Line.{Line}
use Rattle.backup_rules.specs.declared.settings.Setting.TheVariants.{FullKeepCntMin, FullAgeMax, IncrKeepCntMin, IncrAgeMax}
use Rattle.backup_rules.specs.Values.{RuleSet, number_of}
use Rattle.keep_rules.specs.declared.groups.Group.{Group}
use Rattle.keep_rules.specs.declared.groups.Group.TheVariants.{Recent, Old}
use Rattle.keep_rules.specs.Groups.{days, exceeds, is_in, is_filled_in, is_unfilled_in, counts_of, unfilled_of, cycle_of}
use Rattle.keep_rules.specs.Sets.{Backups, IsKeptSet}

-- the sum of cn * 2^n * span
abbrev pub reach : ℕ → List ℕ → ℕ
reach span [] = 0
reach span (count ∷ counts) = count * span + reach (span * 2) counts

-- the greater of FullAgeMax days and the sum of cn * 2^n * C
unfoldable pub raised_of : RuleSet → Group → ℕ
raised_of rules group = max (days (number_of rules FullAgeMax)) (reach (cycle_of rules) (counts_of rules group))

module _ (rules : RuleSet) (now : ℕ) (group : Group) where
  -- rank is the number of newer candidates of the group that are alike in being filled
  abbrev pub names_filled : Bool → ℕ → Line → Bool
  names_filled kept rank line = not kept || (nat_le (number_of rules FullKeepCntMin) rank && exceeds now (raised_of rules group) line)

  abbrev pub names_unfilled : ℕ → Line → Bool
  names_unfilled rank line =
      nat_le (unfilled_of rules group) rank
      || (nat_le (number_of rules IncrKeepCntMin) rank && exceeds now (days (number_of rules IncrAgeMax)) line)

  -- whether a line of the group is named, by its rank among filled and among unfilled ones
  abbrev pub names : Bool → ℕ → ℕ → Line → Bool
  names kept filled unfilled line = if line.filled then names_filled kept filled line else names_unfilled unfilled line

  -- whether a line is in the group and named there, by its newer lines
  abbrev pub names_in : Bool → Line → List Line → Bool
  names_in kept line newer =
      is_in rules now group line
      && names kept (count_by (is_filled_in rules now group) newer) (count_by (is_unfilled_in rules now group) newer) line

abbrev pub candidates : List Line → List Line
candidates lines = take (length lines - 1) lines

-- numbers rise
abbrev pub RiseFrom : ℕ → List Line → Type 0
RiseFrom low [] = Unit {0}
RiseFrom low (line ∷ lines) = (low ≤ line.number) × RiseFrom (line.number + 1) lines

abbrev pub Rise : List Line → Type 0
Rise lines = RiseFrom 0 lines

-- the same as a test
abbrev pub rise_from : ℕ → List Line → Bool
rise_from low [] = true
rise_from low (line ∷ lines) = nat_le low line.number && rise_from (line.number + 1) lines

pub record AreNamed (rules : RuleSet) (now : ℕ) (lines : List Line) (flags : List Bool) : Type 0 where
  pub counted : length flags ≡ length lines
  pub recent : Backups
  pub old : Backups
  pub recent_is : IsKeptSet rules now Recent (candidates lines) recent
  pub old_is : IsKeptSet rules now Old (candidates lines) old
  pub each : (older newer : List Line) (line : Line) → candidates lines ≡ older ++ line ∷ newer
      → get_or flags (length older) false ≡ (names_in rules now Recent (recent line.number) line newer || names_in rules now Old (old line.number) line newer)
  pub newest : (older : List Line) (line : Line) → lines ≡ older ++ line ∷ [] → get_or flags (length older) false ≡ false
