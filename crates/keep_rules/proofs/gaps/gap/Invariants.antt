-- The counts that are left decide; the span has doubled with each count that is used up.
use Rattle.std.proofs.Common.{◌≡◌, ◌*◌, ◌^◌, drop}
use Rattle.keep_rules.specs.Keeping.{gap_of, gap_from}
use Rattle.keep_rules.proofs.gaps.gap.Given as goal

abbrev pub invariant-loop-count : goal.invariant-loop-count
invariant-loop-count l = record {
  rest : gap_of l.fn.cycle l.counts l.fn.kept ≡ gap_from l.half l.span (drop l.count-index l.counts) l.left;
  span : l.span ≡ 2 ^ l.count-index * l.fn.cycle;
}
