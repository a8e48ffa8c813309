use Rattle.std.proofs.Common.{◌≡◌, drop, map}
use Rattle.std.specs.List.{list_any}
use Rattle.http_query.specs.Query.{pair_text, is_lacking}
use Rattle.http_query.specs.Keys.{rows_of}
use Rattle.http_query.proofs.keys.lacks.Given as goal

abbrev pub invariant-loop-key : goal.invariant-loop-key
invariant-loop-key l = list_any (is_lacking (map pair_text l.pairs)) (rows_of (drop l.key-index l.keys)) ≡ list_any (is_lacking (map pair_text l.pairs)) (rows_of l.keys)
