use Rattle.restore_stream.proofs.FieldLaws.{bytes_came, bytes_short}
use Rattle.restore_stream.proofs.fields.read_bytes.Goals as goal

pub returns-in-Ok-clause-read : goal.returns-in-Ok-clause-read
returns-in-Ok-clause-read g c = bytes_came c.args.count _ _ _ c.in-Ok.ensures.count_is c.in-Ok.ensures.told

pub returns-in-Err-clause-read : goal.returns-in-Err-clause-read
returns-in-Err-clause-read g c = bytes_short c.args.count 0 _ c.in-Err.fault _ c.from.ensures c.in-Err.ensures.ended
