use Rattle.std.proofs.Common.{◌≡◌, drop}
use Rattle.http_query.specs.Query.{is_known}
use Rattle.http_query.specs.Keys.{rows_of}
use Rattle.http_query.proofs.keys.is_known.Given as goal

abbrev pub invariant-loop-key : goal.invariant-loop-key
invariant-loop-key l = is_known (rows_of (drop l.key-index l.keys)) l.name ≡ is_known (rows_of l.keys) l.name
