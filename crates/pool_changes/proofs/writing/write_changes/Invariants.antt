use Rattle.std.proofs.Common.{◌-◌, ◌≤◌}
use Rattle.pool_changes.specs.Kept.{slots_of}
use Rattle.pool_changes.specs.Listed.{index_of}
use Rattle.pool_changes.specs.Writing.{layered, IsWrittenUpTo}
use Rattle.pool_changes.proofs.writing.write_changes.Given as goal

abbrev pub invariant-loop-byte : goal.invariant-loop-byte
invariant-loop-byte l = record {
  bound : l.byte ≤ 256;
  written : IsWrittenUpTo l.in_one_file (index_of (slots_of l.names)) (index_of (layered (slots_of l.names) (slots_of l.over))) l.changes l.byte;
}

abbrev pub decreases-loop-byte : goal.decreases-loop-byte
decreases-loop-byte l = 256 - l.byte
