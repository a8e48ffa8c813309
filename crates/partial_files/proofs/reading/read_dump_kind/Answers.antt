-- A kind, and where none stands.
use Rattle.std.proofs.Common.{ℕ, Some, ap}
use Rattle.wire_bytes.specs.GrammarLaws.{field_finds, field_refuses}
use Rattle.partial_files.proofs.reading.read_dump_kind.Goals as goal

pub returns-in-Ok : goal.returns-in-Ok
returns-in-Ok c = field_finds c.in-Ok.ensures

pub returns-in-Err : goal.returns-in-Err
returns-in-Err c = field_refuses c.in-Err.ensures (ap (λ (n : ℕ). Some n) c.offset-start.ensures.value)
