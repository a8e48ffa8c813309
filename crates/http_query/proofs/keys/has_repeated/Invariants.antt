use Rattle.std.proofs.Common.{◌≡◌, drop, map}
use Rattle.http_query.specs.Query.{pair_text, has_repeated}
use Rattle.http_query.proofs.keys.has_repeated.Given as goal

abbrev pub invariant-loop-i : goal.invariant-loop-i
invariant-loop-i l = has_repeated (map pair_text (drop l.i l.pairs)) ≡ has_repeated (map pair_text l.pairs)
