use Rattle.std.proofs.Common.{◌≡◌, ◌≤◌, ◌-◌, false, length, drop}
use Rattle.backup_delete.specs.Windows.{any_gone}
use Rattle.backup_delete.proofs.windows.behind_gone.Given as goal

abbrev pub invariant-down : goal.invariant-down
invariant-down l = record {
  after : l.from ≤ l.end;
  within : l.end ≤ length l.lines;
  behind : any_gone l.numbers (drop l.end l.lines) ≡ false;
}

abbrev pub decreases-down : goal.decreases-down
decreases-down l = l.end - l.from
