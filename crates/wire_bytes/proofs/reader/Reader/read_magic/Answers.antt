use Rattle.std.proofs.Common.{rules}
use Rattle.wire_bytes.specs.Fields.{magic_at}
use Rattle.wire_bytes.proofs.Field.{field_from}
use Rattle.wire_bytes.proofs.Flags.{magic_field}
use Rattle.wire_bytes.proofs.reader.Reader.read_magic.Goals as goal

pub returns-then-starts_with-clause-field : goal.returns-then-starts_with-clause-field
unfolding magic_at
returns-then-starts_with-clause-field c = field_from (λ done. done) (magic_field c.args.magic.now) _ _ _ c.left-left.ensures.bytes (search rules)

pub returns-after-starts_with-2-clause-field : goal.returns-after-starts_with-2-clause-field
unfolding magic_at
returns-after-starts_with-2-clause-field c = field_from (λ done. done) (magic_field c.args.magic.now) _ _ _ c.left-left.ensures.bytes (search rules)
