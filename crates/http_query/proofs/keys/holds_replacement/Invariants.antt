use Rattle.std.proofs.Common.{◌≡◌, drop}
use Rattle.http_query.specs.Query.{holds_replacement}
use Rattle.http_query.proofs.keys.holds_replacement.Given as goal

abbrev pub invariant-loop-i : goal.invariant-loop-i
invariant-loop-i l = holds_replacement (drop l.i l.text) ≡ holds_replacement l.text
