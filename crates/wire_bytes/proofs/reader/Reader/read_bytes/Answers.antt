use Rattle.std.proofs.Common.{rules}
use Rattle.wire_bytes.specs.Fields.{bytes_at}
use Rattle.wire_bytes.proofs.Field.{field_from, bytes_field}
use Rattle.wire_bytes.proofs.reader.Reader.read_bytes.Goals as goal

pub returns-then-left-count-clause-field : goal.returns-then-left-count-clause-field
unfolding bytes_at
returns-then-left-count-clause-field c = field_from (λ bytes. bytes.now) (bytes_field c.args.count) _ _ _ c.left-left.ensures.bytes (search rules)

pub returns-clause-field : goal.returns-clause-field
unfolding bytes_at
returns-clause-field c = field_from (λ bytes. bytes.now) (bytes_field c.args.count) _ _ _ c.left-left.ensures.bytes (search rules)
