use Rattle.std.proofs.Common.{◌≡◌, drop}
use Rattle.http_query.specs.Query.{holds_replacement}
use Rattle.push_texts.proofs.names.holds_replacement.Given as goal

abbrev pub invariant-loop-i : goal.invariant-loop-i
invariant-loop-i l = holds_replacement (drop l.i l.text) ≡ holds_replacement l.text
