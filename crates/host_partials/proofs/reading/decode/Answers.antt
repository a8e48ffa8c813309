-- What was read is the partial that the file has.
use Rattle.host_partials.specs.ReadLaws.{read_ok, read_bad, says_none}
use Rattle.host_partials.proofs.reading.decode.Goals as goal

pub returns-in-Ok-clause-told : goal.returns-in-Ok-clause-told
returns-in-Ok-clause-told c = read_ok _ c.args.host _ c.args.bytes c.in-Ok.partial c.as_slice.ensures c.in-Ok.ensures

pub returns-in-Err-BadPartial-clause-foreign : goal.returns-in-Err-BadPartial-clause-foreign
returns-in-Err-BadPartial-clause-foreign c =
    says_none c.args.host c.args.bytes
    (read_bad c.args.host _ c.args.bytes _ c.in-Err-BadPartial.field-0-0 c.as_slice.ensures c.in-Err-BadPartial.field-0-is
    c.in-Err-BadPartial.ensures)
