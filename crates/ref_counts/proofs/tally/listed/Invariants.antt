use Rattle.std.proofs.Common.{◌≡◌, ◌++◌}
use Rattle.ref_counts.proofs.tally.listed.Given as goal

-- what was listed, and what is still to be
abbrev pub invariant-loop-id : goal.invariant-loop-id
invariant-loop-id l = l.items.items ++ l.id-iterator ≡ l.numbers.entries
