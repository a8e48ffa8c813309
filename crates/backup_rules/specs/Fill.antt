-- Which backup stays filled when a newer one is committed.
--     stays_filled      the rule, by the remainder
--     IsLeftFilled      the same, by what divides
use Rattle.std.specs.Prelude.{◌≡◌, ℕ, ◌*◌, ◌%◌, ◌<◌, ◌==◌, Bool, true, false, if◌then◌else◌, ◌⊎◌}
use Rattle.backup_rules.specs.declared.lines.Kind.{Kind}
use Rattle.backup_rules.specs.declared.lines.Kind.TheVariants.{Full, Incr}
use Rattle.backup_rules.specs.declared.lines.Line.{Line}
use Rattle.backup_rules.specs.declared.settings.Setting.TheVariants.{FillCycle}
use Rattle.backup_rules.specs.Values.{RuleSet, number_of}

abbrev pub is_full : Kind → Bool
is_full Full = true
is_full Incr = false

-- Without a cycle a full stays filled; under a cycle a backup does whose number the cycle divides, whatever its kind.
abbrev pub stays_filled_under : ℕ → Line → Bool
stays_filled_under cycle line = if cycle == 0 then is_full line.kind else ((line.number % cycle) == 0)

abbrev pub stays_filled : RuleSet → Line → Bool
stays_filled rules line = stays_filled_under (number_of rules FillCycle) line

abbrev pub Divides : ℕ → ℕ → Type 0
Divides cycle number = (q : ℕ) × (number ≡ q * cycle)

abbrev pub IsLeftFilled : ℕ → Kind → ℕ → Type 0
IsLeftFilled cycle kind number = ((cycle ≡ 0) × (kind ≡ Full)) ⊎ ((0 < cycle) × Divides cycle number)
