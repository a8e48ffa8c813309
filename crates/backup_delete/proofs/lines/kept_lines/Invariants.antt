use Rattle.std.proofs.Common.{◌≡◌, ◌++◌, drop}
use Rattle.backup_delete.specs.Folds.{kept_lines}
use Rattle.backup_delete.proofs.lines.kept_lines.Given as goal

abbrev pub invariant-loop-line : goal.invariant-loop-line
invariant-loop-line l = l.kept ++ kept_lines l.numbers (drop l.line-index l.lines) ≡ kept_lines l.numbers l.lines
