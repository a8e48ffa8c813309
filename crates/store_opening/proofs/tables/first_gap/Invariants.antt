use Rattle.std.specs.BTreeSet.{contains}
use Rattle.std.proofs.Common.{◌≡◌, drop}
use Rattle.disk_trait.specs.Order.{file_cmp}
use Rattle.store_opening.specs.Tables.{first_gap}
use Rattle.store_opening.proofs.tables.first_gap.Given as goal

abbrev pub invariant-loop-line : goal.invariant-loop-line
invariant-loop-line l =
    first_gap (contains file_cmp l.tables) l.host (drop l.line-index l.lines) ≡ first_gap (contains file_cmp l.tables) l.host l.lines
