-- The seal, the body, and nothing behind it.
use Rattle.std.proofs.Common.{Some, refl, ap}
use Rattle.wire_bytes.specs.SealedLaws.{body_refuses, more_refuses, sealed_finds}
use Rattle.pool_index.proofs.file.read_index.Goals as goal

pub returns-in-Err-read_body : goal.returns-in-Err-read_body
returns-in-Err-read_body c = body_refuses c.in-Ok.ensures.found c.in-Err-read_body.ensures

pub returns-in-Ok-finish : goal.returns-in-Ok-finish
returns-in-Ok-finish c = sealed_finds c.in-Ok.ensures.found c.in-Ok-read_body.ensures c.in-Ok-finish.ensures.ok refl

pub returns-in-Err-finish : goal.returns-in-Err-finish
returns-in-Err-finish c = more_refuses c.in-Ok.ensures.found c.in-Ok-read_body.ensures c.in-Err-finish.ensures.err.1 (ap Some c.in-Err-finish.ensures.err.0)
