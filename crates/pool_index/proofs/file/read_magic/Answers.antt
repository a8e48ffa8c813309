use Rattle.std.proofs.Common.{Some, ap}
use Rattle.wire_bytes.specs.GrammarLaws.{field_finds, field_refuses}
use Rattle.pool_index.proofs.file.read_magic.Goals as goal

pub returns-in-Ok : goal.returns-in-Ok
returns-in-Ok c = field_finds c.in-Ok.ensures.field.reads

pub returns-in-Err : goal.returns-in-Err
returns-in-Err c = field_refuses c.in-Err.ensures.field.reads (ap Some c.offset-start.ensures.value)
