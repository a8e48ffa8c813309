use Rattle.std.proofs.Common.{◌≡◌, false}
use Rattle.journal_view.specs.View.{told, Quiet}
use Rattle.office_catalog.proofs.Opens.{AreRead}
use Rattle.office_catalog.proofs.opening.read_hosts.Given as goal

abbrev pub invariant-loop-name : goal.invariant-loop-name
invariant-loop-name g l = record {
  ready : l.journal.halted ≡ false;
  still : g.D.Disk.fault_count l.journal.disk ≡ g.D.Disk.fault_count l.fn.journal.disk;
  quiet : Quiet l.fn.journal l.journal;
  read : AreRead (told l.fn.journal) l.fn.head.epoch l.name-items l.name-index l.catalog;
}
