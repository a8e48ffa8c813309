use Rattle.std.proofs.Common.{ℕ, List, ◌-◌, ◌≡◌, ◌≤◌, ◌<◌, take, false, Some}
use Rattle.disk_trait.specs.Files.{Files, bytes_of}
use Rattle.intent_journal.specs.Calls.{Reads}
use Rattle.pool_store.specs.Sources.{IsSource}
use Rattle.pool_store.proofs.source.agrees.Given as goal

abbrev pub invariant-loop-from : goal.invariant-loop-from
invariant-loop-from g l = record {
  within : l.from ≤ l.size;
  ready : l.journal.halted ≡ false;
  still : g.D.Disk.fault_count l.journal.disk ≡ g.D.Disk.fault_count l.fn.journal.disk;
  reads : Reads l.fn.journal l.journal;
  agrees : (all : Files) (bytes : List ℕ) → g.D.Disk.files l.fn.journal.disk ≡ Some all → IsSource l.source (g.D.Disk.files l.fn.journal.disk) bytes
      → take l.from (bytes_of (all l.file)) ≡ take l.from bytes;
  whole : (all : Files) (bytes : List ℕ) → g.D.Disk.files l.fn.journal.disk ≡ Some all → IsSource l.source (g.D.Disk.files l.fn.journal.disk) bytes
      → 0 < l.from → l.size ≤ l.from → all l.file ≡ Some bytes;
}

abbrev pub decreases-loop-from : goal.decreases-loop-from
decreases-loop-from g l = l.size - l.from
