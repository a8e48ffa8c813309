-- The layouts of rules and of a backup's line.
--     rules_grammar      the settings in their order: the first layout has none of old backups, the second has all
--     line_bytes, IsLine      number, start, end, kind, the two flags: 23 bytes;  the lines that have this layout
use Rattle.std.specs.Prelude.{ℕ, List, ◌++◌, Option, Some, None}
use Rattle.std.specs.Int.{w8, w32, w64}
use Rattle.wire_bytes.specs.Layout.{number_bytes, flag_bytes, IsNumber}
use Rattle.wire_bytes.specs.Grammar.{Grammar, followed_by, seen_as}
use Rattle.backup_rules.specs.declared.lines.Kind.{Kind}
use Rattle.backup_rules.specs.declared.lines.Kind.TheVariants.{Full, Incr}
use Rattle.backup_rules.specs.declared.lines.Line.{Line}
use Rattle.backup_rules.specs.declared.layouts.RulesLayout.{RulesLayout}
use Rattle.backup_rules.specs.declared.layouts.RulesLayout.TheVariants.{First, Second}
use Rattle.backup_rules.specs.declared.faults.RulesFault.{RulesFault}
use Rattle.backup_rules.specs.declared.faults.RulesFault.TheVariants.{BadRules, Memory}
use Rattle.backup_rules.specs.Values.{RuleSet}
use Rattle.backup_rules.specs.Ranges.{IsRules}
use Rattle.backup_rules.specs.Parts.{early_grammar, old_grammar, none_old, early_of, old_of, rules_of}
use Rattle.backup_rules.specs.PartLaws.{IsWithoutOld, sees_first, sees_second}

-- the settings in their order
abbrev pub rules_grammar : RulesLayout → Grammar RuleSet
rules_grammar First = seen_as early_grammar IsWithoutOld early_of (λ early. rules_of early none_old) sees_first
rules_grammar Second = seen_as (followed_by early_grammar (λ _. old_grammar)) IsRules (λ rules. (early_of rules, old_of rules)) (λ p. rules_of p.0 p.1) sees_second

-- the offset that a fault tells
abbrev pub offset_of : RulesFault → Option ℕ
offset_of (BadRules offset) = Some offset
offset_of Memory = None

-- 1 full, 2 incremental
abbrev pub kind_number : Kind → ℕ
kind_number Full = 1
kind_number Incr = 2

abbrev pub kind_bytes : Kind → List ℕ
kind_bytes kind = number_bytes w8 (kind_number kind)

unfoldable pub line_bytes : Line → List ℕ
line_bytes line =
    number_bytes w32 line.number ++ (number_bytes w64 line.start ++ (number_bytes w64 line.end
    ++ (kind_bytes line.kind ++ (flag_bytes line.filled ++ flag_bytes line.keep))))

pub record IsLine (line : Line) : Type 0 where
  pub number : IsNumber w32 line.number
  pub start : IsNumber w64 line.start
  pub end : IsNumber w64 line.end
