use Rattle.std.proofs.Common.{◌≡◌, drop, map}
use Rattle.std.specs.List.{list_any}
use Rattle.http_query.specs.Query.{pair_text, is_bad_pair}
use Rattle.http_query.proofs.keys.has_bad_text.Given as goal

abbrev pub invariant-loop-key : goal.invariant-loop-key
invariant-loop-key l = list_any is_bad_pair (map pair_text (drop l.key-index l.pairs)) ≡ list_any is_bad_pair (map pair_text l.pairs)
