-- What was read so far is the tables of the lines so far, and the journal is as it was.
use Rattle.std.proofs.Common.{◌≡◌, false, length, List, Some, take}
use Rattle.disk_trait.specs.Files.{Files}
use Rattle.merge_view.specs.Views.{Rows}
use Rattle.journal_view.specs.View.{told, Quiet}
use Rattle.backup_views.specs.Stored.{AreTableFiles}
use Rattle.backup_views.proofs.tables.read_tables.Given as goal

abbrev pub invariant-loop-line : goal.invariant-loop-line
invariant-loop-line g l = record {
  ready : l.journal.halted ≡ false;
  still : g.D.Disk.fault_count l.journal.disk ≡ g.D.Disk.fault_count l.fn.journal.disk;
  quiet : Quiet l.fn.journal l.journal;
  each : length l.tables.items ≡ l.line-index;
  there : (all : Files) → told l.fn.journal ≡ Some all → AreTableFiles all l.host (take l.line-index l.lines) l.tables.items;
  one : (all : Files) (stored : List Rows) → told l.fn.journal ≡ Some all → AreTableFiles all l.host l.lines stored → l.tables.items ≡ take l.line-index stored;
}
