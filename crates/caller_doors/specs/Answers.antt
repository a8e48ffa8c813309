-- What a door answers.
use Rattle.std.specs.Prelude.{Bool, true, false}
use Rattle.caller_doors.specs.declared.came.Came.{Came}
use Rattle.caller_doors.specs.declared.came.Came.TheVariants.{Link, Closed, Failed}

-- where a link came, this holds of it
abbrev pub IfLink : {L : Type 0} → Came L → (L → Type 0) → Type 0
IfLink (Link link) holds = holds link
IfLink Closed holds = Unit {0}
IfLink Failed holds = Unit {0}

-- where no link came, this holds
abbrev pub OnNoLink : {L : Type 0} → Came L → Type 0 → Type 0
OnNoLink (Link link) holds = Unit {0}
OnNoLink Closed holds = holds
OnNoLink Failed holds = holds

-- where the door is closed, this holds
abbrev pub OnClosed : {L : Type 0} → Came L → Type 0 → Type 0
OnClosed (Link link) holds = Unit {0}
OnClosed Closed holds = holds
OnClosed Failed holds = Unit {0}

-- whether the door failed
abbrev pub is_failed : {L : Type 0} → Came L → Bool
is_failed (Link link) = false
is_failed Closed = false
is_failed Failed = true

-- the door failed
abbrev pub IsFailed : {L : Type 0} → Came L → Type 0
IsFailed (Link link) = ⊥
IsFailed Closed = ⊥
IsFailed Failed = Unit {0}
