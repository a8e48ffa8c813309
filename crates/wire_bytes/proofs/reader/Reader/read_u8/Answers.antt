use Rattle.std.proofs.Common.{rules}
use Rattle.std.specs.Int.{w8}
use Rattle.wire_bytes.specs.Layout.{number_of}
use Rattle.wire_bytes.specs.Fields.{number_at}
use Rattle.wire_bytes.proofs.Field.{field_from}
use Rattle.wire_bytes.proofs.Numbers.{number_field}
use Rattle.wire_bytes.proofs.reader.Reader.read_u8.Goals as goal

pub returns-in_err-bytes-clause-field : goal.returns-in_err-bytes-clause-field
unfolding number_at number_of
returns-in_err-bytes-clause-field c = field_from (λ n. n) (number_field w8 tt) _ _ _ c.read_bytes.ensures.bytes (search rules)

pub returns-clause-field : goal.returns-clause-field
unfolding number_at number_of
returns-clause-field c = field_from (λ n. n) (number_field w8 tt) _ _ _ c.read_bytes.ensures.bytes (search rules)
