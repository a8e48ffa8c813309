-- The set of the filled backups that the counts keep.
--     IsKeptSet      the equation: a filled candidate is in the set exactly if there is a least j with c0 + .. + cj above the
--                    number of its newer members, and no older filled candidate stands nearer than 2^j * C - C/2
use Rattle.std.specs.Prelude.{◌≡◌, ℕ, Bool, true, ◌&&◌, List, ◌∷◌, ◌++◌}
use Rattle.std.specs.List.{count_by}
use Rattle.backup_rules.specs.declared.lines.Line.{Line}
use Rattle.backup_rules.specs.Values.{RuleSet}
use Rattle.keep_rules.specs.declared.groups.Group.{Group}
use Rattle.keep_rules.specs.Groups.{is_filled_in}
use Rattle.keep_rules.specs.Keeping.{is_kept, next_older}

-- a set of backups, by their numbers
abbrev pub Backups : Type 0
Backups = ℕ → Bool

module _ (rules : RuleSet) (now : ℕ) (group : Group) where
  -- how many of these are members
  abbrev pub members : Backups → List Line → ℕ
  members set lines = count_by (λ (line : Line). is_filled_in rules now group line && set line.number) lines

  pub record IsKeptSet (candidates : List Line) (set : Backups) : Type 0 where
    pub each : (older newer : List Line) (line : Line) → candidates ≡ older ++ line ∷ newer → is_filled_in rules now group line ≡ true
        → set line.number ≡ is_kept rules group (members set newer) line.start (next_older rules now group older)
