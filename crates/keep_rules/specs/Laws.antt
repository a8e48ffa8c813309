-- What holds of the definitions.
--     KeptSetExists, KeptSetsAgree      there is a set that satisfies the equation, and but one
--     FlagsAreNamed      the flags by recursion are those of that set, and no others are
--     NewestStays, KeptStays      what no rule names
--     GapIsLeast, GapFails      the distance, as the rule says it
use Rattle.std.specs.Prelude.{◌≡◌, ◌↔◌, ℕ, suc, ◌<◌, ◌≤◌, Bool, true, false, List, [], ◌∷◌, ◌++◌, length, take, sum, get_or, Some, None}
use Rattle.backup_rules.specs.declared.lines.Line.{Line}
use Rattle.backup_rules.specs.Values.{RuleSet}
use Rattle.keep_rules.specs.declared.groups.Group.{Group}
use Rattle.keep_rules.specs.Groups.{is_filled_in}
use Rattle.keep_rules.specs.Keeping.{gap_of}
use Rattle.keep_rules.specs.Gaps.{IsGap}
use Rattle.keep_rules.specs.Sets.{Backups, IsKeptSet}
use Rattle.keep_rules.specs.Named.{Rise, AreNamed}
use Rattle.keep_rules.specs.Flags.{named_flags}

abbrev pub KeptSetExists : Type 0
KeptSetExists = (rules : RuleSet) (now : ℕ) (group : Group) (lines : List Line) → Rise lines → (set : Backups) × IsKeptSet rules now group lines set

-- they agree on the filled candidates of the group
abbrev pub KeptSetsAgree : Type 0
KeptSetsAgree = (rules : RuleSet) (now : ℕ) (group : Group) (lines : List Line) (set other : Backups)
    → IsKeptSet rules now group lines set → IsKeptSet rules now group lines other
    → (older newer : List Line) (line : Line) → lines ≡ older ++ line ∷ newer → is_filled_in rules now group line ≡ true
    → set line.number ≡ other line.number

abbrev pub FlagsAreNamed : Type 0
FlagsAreNamed = (rules : RuleSet) (now : ℕ) (lines : List Line) (flags : List Bool) → Rise lines
    → AreNamed rules now lines flags ↔ (flags ≡ named_flags rules now lines)

abbrev pub NewestStays : Type 0
NewestStays = (rules : RuleSet) (now : ℕ) (older : List Line) (line : Line)
    → get_or (named_flags rules now (older ++ line ∷ [])) (length older) false ≡ false

abbrev pub KeptStays : Type 0
KeptStays = (rules : RuleSet) (now : ℕ) (older newer : List Line) (line : Line) → line.keep ≡ true
    → get_or (named_flags rules now (older ++ line ∷ newer)) (length older) false ≡ false

abbrev pub GapIsLeast : Type 0
GapIsLeast = (cycle : ℕ) (counts : List ℕ) (kept gap : ℕ) → (gap_of cycle counts kept ≡ Some gap) ↔ IsGap cycle counts kept gap

-- no sum is above what is kept
abbrev pub GapFails : Type 0
GapFails = (cycle : ℕ) (counts : List ℕ) (kept : ℕ)
    → (gap_of cycle counts kept ≡ None) ↔ ((j : ℕ) → j < length counts → sum (take (suc j) counts) ≤ kept)
