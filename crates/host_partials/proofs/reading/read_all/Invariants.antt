use Rattle.std.proofs.Common.{◌≡◌, false}
use Rattle.journal_view.specs.View.{told, Quiet}
use Rattle.host_partials.proofs.AllRead.{AreRead}
use Rattle.host_partials.proofs.reading.read_all.Given as goal

abbrev pub invariant-loop-host : goal.invariant-loop-host
invariant-loop-host g l = record {
  ready : l.journal.halted ≡ false;
  still : g.D.Disk.fault_count l.journal.disk ≡ g.D.Disk.fault_count l.fn.journal.disk;
  quiet : Quiet l.fn.journal l.journal;
  read : AreRead (told l.fn.journal) l.host l.held;
}
