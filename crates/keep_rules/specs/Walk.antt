-- A walk over a group, from the newest backup to the oldest, by recursion.
--     flag_of      the flag of a backup, by the next older filled one and its newer lines
--     walked      flags after the walk
use Rattle.std.specs.Prelude.{ℕ, Bool, if◌then◌else◌, List, [], ◌∷◌, Option}
use Rattle.std.specs.List.{count_by}
use Rattle.backup_rules.specs.declared.lines.Line.{Line}
use Rattle.backup_rules.specs.Values.{RuleSet}
use Rattle.keep_rules.specs.declared.groups.Group.{Group}
use Rattle.keep_rules.specs.Groups.{is_in, is_filled_in, is_unfilled_in}
use Rattle.keep_rules.specs.Keeping.{is_kept, nearer, kept_count}
use Rattle.keep_rules.specs.Named.{names}

module _ (rules : RuleSet) (now : ℕ) (group : Group) where
  abbrev pub judged : Option ℕ → Line → ℕ → ℕ → ℕ → Bool
  judged older line kept filled unfilled = names rules now group (is_kept rules group kept line.start older) filled unfilled line

  -- the flag of a line of no group, or of the other one, stays
  abbrev pub flag_of : Option ℕ → Line → List Line → Bool → Bool
  flag_of older line newer flag =
      if is_in rules now group line
      then judged older line (kept_count rules now group (nearer rules now group older line) newer)
      (count_by (is_filled_in rules now group) newer) (count_by (is_unfilled_in rules now group) newer)
      else flag

  abbrev pub walked : Option ℕ → List Line → List Bool → List Bool
  walked older [] flags = flags
  walked older (line ∷ newer) [] = []
  walked older (line ∷ newer) (flag ∷ flags) = flag_of older line newer flag ∷ walked (nearer rules now group older line) newer flags
