use Rattle.std.proofs.Common.{◌≡◌, ◌+◌, drop}
use Rattle.dump_session.specs.Counts.{total_rows}
use Rattle.dump_session.proofs.removed.total_rows.Given as goal

abbrev pub invariant-loop-directory : goal.invariant-loop-directory
invariant-loop-directory l = l.total + total_rows l.base (drop l.directory-index l.directories) ≡ total_rows l.base l.directories
