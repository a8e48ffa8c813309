use Rattle.std.proofs.Common.{◌≡◌, Some, drop}
use Rattle.disk_trait.specs.Files.{Files}
use Rattle.disk_trait.specs.Images.{nothing, IsWithin, IsImage, Leaves}
use Rattle.intent_journal.specs.Changes.{names}
use Rattle.intent_journal.specs.Steps.{Underway}
use Rattle.intent_journal.proofs.steps.make_changes.Given as goal

abbrev pub invariant-loop-change : goal.invariant-loop-change
invariant-loop-change g l = record {
  counted : g.D.Disk.fault_count l.disk ≡ g.D.Disk.fault_count l.fn.disk;
  underway : (all : Files) → g.D.Disk.files l.fn.disk ≡ Some all → IsWithin (g.D.Disk.uncertain l.fn.disk) nothing
      → Underway (g.D.Disk.files l.disk) (g.D.Disk.uncertain l.disk) all l.changes (drop l.change-index l.changes);
  leaves : (all : Files) → g.D.Disk.files l.fn.disk ≡ Some all → IsWithin (g.D.Disk.uncertain l.fn.disk) nothing
      → Leaves g.D.Disk.moment g.D.Disk.left_since l.fn.disk l.disk (IsImage all (names l.changes));
}
