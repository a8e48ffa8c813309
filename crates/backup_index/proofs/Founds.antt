-- What was found, by an equal value.
use Rattle.std.proofs.Common.{◌≡◌, subst}
use Rattle.wire_bytes.specs.Reading.{Reading}
use Rattle.wire_bytes.specs.Grammar.{Grammar}
use Rattle.wire_bytes.specs.GrammarReading.{Finds}

pub found_as : {V : Type 0} {grammar : Grammar V} {old new : Reading} {v w : V} → v ≡ w → Finds grammar old v new → Finds grammar old w new
found_as {V} {grammar} {old} {new} {v} {w} same found = subst (λ (x : V). Finds grammar old x new) same found
