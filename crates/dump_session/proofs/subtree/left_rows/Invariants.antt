use Rattle.std.proofs.Common.{◌≡◌, ◌++◌, drop}
use Rattle.dump_session.specs.Edits.{outside}
use Rattle.dump_session.proofs.subtree.left_rows.Given as goal

abbrev pub invariant-loop-row : goal.invariant-loop-row
invariant-loop-row l = l.rows.items ++ outside (drop l.row-index l.base) l.removed.entries ≡ outside l.base l.removed.entries
