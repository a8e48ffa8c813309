use Rattle.std.proofs.Common.{◌≡◌, ◌++◌, ◌+◌, ◌-◌, ◌≤◌, length, drop}
use Rattle.dump_session.specs.Edits.{edited}
use Rattle.dump_session.specs.Merging.{waiting}
use Rattle.dump_session.proofs.edits.merged.Given as goal

abbrev pub invariant-both : goal.invariant-both
invariant-both l = record {
  within : l.i ≤ length l.base;
  told : l.rows.items ++ edited (drop l.i l.base) l.removed.entries (waiting l.put l.left) ≡ edited l.base l.removed.entries l.puts.entries;
}

abbrev pub decreases-both : goal.decreases-both
decreases-both l = (length l.base - l.i) + length (waiting l.put l.left)

abbrev pub invariant-rest : goal.invariant-rest
invariant-rest l = record {
  ended : l.i ≡ length l.base;
  told : l.rows.items ++ edited (drop l.i l.base) l.removed.entries (waiting l.put l.left) ≡ edited l.base l.removed.entries l.puts.entries;
}

abbrev pub decreases-rest : goal.decreases-rest
decreases-rest l = length (waiting l.put l.left)
