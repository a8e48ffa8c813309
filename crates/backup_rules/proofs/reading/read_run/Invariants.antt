use Rattle.std.proofs.Common.{◌≡◌, ◌+◌, take, drop}
use Rattle.std.specs.Int.{w32}
use Rattle.wire_bytes.specs.Layout.{number_bytes}
use Rattle.wire_bytes.specs.ItemLaws.{ItemsRead}
use Rattle.backup_rules.specs.Ranges.{AreNumbers}
use Rattle.backup_rules.specs.Runs.{run, RunFits}
use Rattle.backup_rules.proofs.reading.read_run.Given as goal

abbrev pub invariant-loop-i : goal.invariant-loop-i
invariant-loop-i l = record {
  read : ItemsRead (RunFits l.first) (number_bytes w32) l.fn.reader l.reader (run l.first l.i l.numbers) l.i l.count;
  before : take l.first l.numbers ≡ take l.first l.initial.numbers;
  behind : drop (l.first + l.count) l.numbers ≡ drop (l.first + l.count) l.initial.numbers;
  in_range : AreNumbers l.numbers;
}
