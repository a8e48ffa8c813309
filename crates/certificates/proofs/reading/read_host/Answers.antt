-- A host's part is told as one.
use Rattle.std.proofs.Common.{Some, ap}
use Rattle.wire_bytes.specs.GrammarLaws.{whole_finds}
use Rattle.certificates.proofs.Next.{whole_again}
use Rattle.certificates.proofs.reading.read_host.Goals as goal

pub returns-in-Ok : goal.returns-in-Ok
returns-in-Ok c = record { value = c.in-Ok.ensures.value; tells = c.in-Ok.ensures.tells; finds = whole_finds c.in-Ok.ensures.finds }

pub returns-in-Err : goal.returns-in-Err
returns-in-Err c = whole_again c.in-Err.field-0 c.in-Err.ensures (ap Some c.offset-start.ensures.value)
