-- What an index says of an edit that is refused.
use Rattle.std.specs.Prelude.{◌≡◌, ℕ, ◌+◌, true, Some}
use Rattle.backup_rules.specs.declared.lines.Line.{Line}
use Rattle.backup_index.specs.declared.lines.AppendFault.{AppendFault}
use Rattle.backup_index.specs.declared.lines.AppendFault.TheVariants.{Broken, Memory}
use Rattle.backup_index.specs.Lines.{broken_line}

-- the rule that the line breaks behind the others, or want of memory
abbrev pub IsAppendFault : ℕ → Line → AppendFault → Type 0
IsAppendFault next line (Broken rule) = broken_line next (line.number + 1) true line ≡ Some rule
IsAppendFault next line Memory = Unit {0}
