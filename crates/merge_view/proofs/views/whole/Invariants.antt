use Rattle.std.proofs.Common.{◌≡◌, ◌++◌, length}
use Rattle.merge_view.specs.Tables.{whole}
use Rattle.merge_view.proofs.views.whole.Given as goal

abbrev pub invariant-given : goal.invariant-given
invariant-given l = l.rows.items ++ l.merge ≡ whole l.tables

abbrev pub decreases-given : goal.decreases-given
decreases-given l = length l.merge
