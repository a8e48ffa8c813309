use Rattle.std.proofs.Common.{rules}
use Rattle.std.specs.Int.{w64}
use Rattle.wire_bytes.specs.Fields.{signed_at}
use Rattle.wire_bytes.proofs.Field.{field_from}
use Rattle.wire_bytes.proofs.Signed.{signed_field}
use Rattle.wire_bytes.proofs.reader.Reader.read_i64.Goals as goal

pub returns-in_err-bits-clause-field : goal.returns-in_err-bits-clause-field
unfolding signed_at
returns-in_err-bits-clause-field c = field_from (λ z. z) (signed_field w64 tt) _ _ _ c.read_u64.ensures.bytes (search rules)

pub returns-clause-field : goal.returns-clause-field
unfolding signed_at
returns-clause-field c = field_from (λ z. z) (signed_field w64 tt) _ _ _ c.read_u64.ensures.bytes (search rules)
