use Rattle.std.proofs.Common.{◌≡◌, ◌≤◌, drop, length}
use Rattle.backup_delete.specs.Folds.{changes}
use Rattle.backup_delete.specs.Towers.{MayStand}
use Rattle.backup_delete.specs.Walks.{IsNext}
use Rattle.backup_delete.proofs.changes.changes.Given as goal

abbrev pub invariant-down : goal.invariant-down
invariant-down l = record {
  within : l.index ≤ length l.lines;
  walk : IsNext l.numbers l.lines l.tables l.next l.index;
  stands : MayStand l.lines l.tables l.next l.tower;
  told : l.all.items ≡ changes l.numbers (drop l.index l.lines) (drop l.index l.tables);
}

abbrev pub decreases-down : goal.decreases-down
decreases-down l = l.index
