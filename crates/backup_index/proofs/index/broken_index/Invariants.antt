use Rattle.std.proofs.Common.{◌≡◌, drop}
use Rattle.backup_index.specs.Lines.{broken_lines}
use Rattle.backup_index.proofs.index.broken_index.Given as goal

abbrev pub invariant-loop-place : goal.invariant-loop-place
invariant-loop-place l = broken_lines 0 l.next l.lines ≡ broken_lines l.low l.next (drop l.place l.lines)
