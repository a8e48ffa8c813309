use Rattle.std.proofs.Common.{◌≡◌, ◌+◌, ℕ, take}
use Rattle.disk_trait.specs.declared.ids.PoolId.{PoolId}
use Rattle.stored_trees.specs.Occurrences.{occurrences}
use Rattle.ref_counts.specs.Numbers.{AreSome, number, capped}
use Rattle.ref_counts.proofs.tally.count_rows.Given as goal

abbrev pub invariant-loop-row : goal.invariant-loop-row
invariant-loop-row l = record {
  number : (id : PoolId) (n : ℕ) → number l.initial.numbers.entries id ≡ capped n
      → number l.numbers.entries id ≡ capped (n + occurrences id (take l.row-index l.rows));
  some : AreSome l.initial.numbers.entries → AreSome l.numbers.entries;
}
