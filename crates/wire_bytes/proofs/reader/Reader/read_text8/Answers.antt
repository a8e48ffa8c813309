use Rattle.std.proofs.Common.{rules}
use Rattle.std.specs.Int.{w8}
use Rattle.wire_bytes.specs.Fields.{text_at}
use Rattle.wire_bytes.proofs.Field.{field_from}
use Rattle.wire_bytes.proofs.Texts.{text_field}
use Rattle.wire_bytes.proofs.reader.Reader.read_text8.Goals as goal

pub returns-in_err-read_u8-clause-field : goal.returns-in_err-read_u8-clause-field
unfolding text_at
returns-in_err-read_u8-clause-field c = field_from (λ text. text.now) (text_field w8 tt) _ _ _ c.read_u8.ensures.bytes (search rules)

pub returns-clause-field : goal.returns-clause-field
unfolding text_at
returns-clause-field c = field_from (λ text. text.now) (text_field w8 tt) _ _ _ c.read_u8.ensures.bytes (search rules)
