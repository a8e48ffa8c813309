-- What was planned so far goes on to the whole, and the journal is as it was.
use Rattle.std.proofs.Common.{◌≡◌, false}
use Rattle.journal_view.specs.View.{told, Quiet}
use Rattle.store_migrations.specs.PlanLaws.{GoesOn}
use Rattle.store_migrations.proofs.gather.gather.Given as goal

abbrev pub invariant-loop-line : goal.invariant-loop-line
invariant-loop-line g l = record {
  ready : l.journal.halted ≡ false;
  still : g.D.Disk.fault_count l.journal.disk ≡ g.D.Disk.fault_count l.fn.journal.disk;
  quiet : Quiet l.fn.journal l.journal;
  planned : GoesOn (told l.fn.journal) l.host l.line-index l.lines l.changes;
}
