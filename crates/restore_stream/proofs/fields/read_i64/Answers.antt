use Rattle.std.proofs.Common.{rules}
use Rattle.restore_stream.proofs.FieldLaws.{signed_came, signed_refuses}
use Rattle.restore_stream.proofs.fields.read_i64.Goals as goal

pub returns-in-Ok-clause-read : goal.returns-in-Ok-clause-read
returns-in-Ok-clause-read g c = signed_came _ _ c.in-Ok.bits _ (search rules) c.in-Ok.ensures.read

pub returns-in-Err-clause-read : goal.returns-in-Err-clause-read
returns-in-Err-clause-read g c = signed_refuses _ _ _ c.in-Err.ensures.read
