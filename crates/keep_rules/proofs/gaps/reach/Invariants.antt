-- What is left is added; the total stays below a thousand spans.
use Rattle.std.proofs.Common.{◌≡◌, ◌+◌, ◌*◌, ◌^◌, ◌≤◌, drop}
use Rattle.keep_rules.specs.Named.{reach}
use Rattle.keep_rules.proofs.gaps.reach.Given as goal

abbrev pub invariant-loop-count : goal.invariant-loop-count
invariant-loop-count l = record {
  rest : reach l.fn.cycle l.counts ≡ l.total + reach l.span (drop l.count-index l.counts);
  span : l.span ≡ 2 ^ l.count-index * l.fn.cycle;
  small : l.total + 1000 * l.fn.cycle ≤ 1000 * l.span;
}
