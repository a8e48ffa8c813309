use Rattle.std.proofs.Common.{◌≡◌, ◌+◌, ◌≤◌, length}
use Rattle.backup_delete.specs.Towers.{folds}
use Rattle.backup_delete.proofs.tower.count_folds.Given as goal

abbrev pub invariant-up : goal.invariant-up
invariant-up l = record {
  room : l.count + length l.rest ≤ length l.lines;
  told : l.count + folds l.numbers l.rest ≡ folds l.numbers l.lines;
}

abbrev pub decreases-up : goal.decreases-up
decreases-up l = length l.rest
