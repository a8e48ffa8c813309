use Rattle.std.proofs.Common.{◌≡◌, ◌≤◌, ◌-◌, false, length, take}
use Rattle.backup_delete.specs.Windows.{any_gone}
use Rattle.backup_delete.proofs.windows.oldest_gone.Given as goal

abbrev pub invariant-up : goal.invariant-up
invariant-up l = record {
  within : l.i ≤ length l.lines;
  before : any_gone l.numbers (take l.i l.lines) ≡ false;
}

abbrev pub decreases-up : goal.decreases-up
decreases-up l = length l.lines - l.i
