use Rattle.std.proofs.Common.{◌≡◌, drop, map}
use Rattle.http_query.specs.Query.{pair_text, has_key}
use Rattle.http_query.proofs.keys.has_key.Given as goal

abbrev pub invariant-loop-key : goal.invariant-loop-key
invariant-loop-key l = has_key l.name (map pair_text (drop l.key-index l.pairs)) ≡ has_key l.name (map pair_text l.pairs)
