use Rattle.std.proofs.Common.{◌≡◌, drop, map, not}
use Rattle.std.specs.List.{list_any}
use Rattle.http_query.specs.Query.{pair_text, is_known}
use Rattle.http_query.specs.Keys.{rows_of}
use Rattle.http_query.proofs.keys.has_unknown.Given as goal

abbrev pub invariant-loop-key : goal.invariant-loop-key
invariant-loop-key l = list_any (λ pair. not (is_known (rows_of l.keys) pair.0)) (map pair_text (drop l.key-index l.pairs)) ≡ list_any (λ pair. not (is_known (rows_of l.keys) pair.0)) (map pair_text l.pairs)
