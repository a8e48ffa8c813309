use Rattle.std.proofs.Common.{rules}
use Rattle.wire_bytes.specs.Fields.{flag_at}
use Rattle.wire_bytes.proofs.Field.{field_from}
use Rattle.wire_bytes.proofs.Flags.{flag_field}
use Rattle.wire_bytes.proofs.reader.Reader.read_flag.Goals as goal

pub returns-in_err-read_u8-clause-field : goal.returns-in_err-read_u8-clause-field
unfolding flag_at
returns-in_err-read_u8-clause-field c = field_from (λ flag. flag) flag_field _ _ _ c.read_u8.ensures.bytes (search rules)

pub returns-in-0-clause-field : goal.returns-in-0-clause-field
unfolding flag_at
returns-in-0-clause-field c = field_from (λ flag. flag) flag_field _ _ _ c.read_u8.ensures.bytes (search rules)

pub returns-in-1-clause-field : goal.returns-in-1-clause-field
unfolding flag_at
returns-in-1-clause-field c = field_from (λ flag. flag) flag_field _ _ _ c.read_u8.ensures.bytes (search rules)

pub returns-in_default-clause-field : goal.returns-in_default-clause-field
unfolding flag_at
returns-in_default-clause-field c = field_from (λ flag. flag) flag_field _ _ _ c.read_u8.ensures.bytes (search rules)
