-- The lines that are left decide.
use Rattle.std.proofs.Common.{◌≡◌, drop}
use Rattle.keep_rules.specs.Named.{rise_from}
use Rattle.keep_rules.proofs.naming.rise.Given as goal

abbrev pub invariant-loop-line : goal.invariant-loop-line
invariant-loop-line l = rise_from 0 l.lines ≡ rise_from l.least (drop l.line-index l.lines)
