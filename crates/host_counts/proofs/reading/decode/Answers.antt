-- What was read are the counts that the file has.
use Rattle.std.specs.Prelude.{Some}
use Rattle.host_counts.specs.ReadLaws.{read_ok, read_bad, says_none}
use Rattle.host_counts.proofs.reading.decode.Goals as goal

pub returns-in-Ok-clause-told : goal.returns-in-Ok-clause-told
returns-in-Ok-clause-told c = read_ok _ c.args.host _ c.args.bytes c.in-Ok.counts c.as_slice.ensures c.in-Ok.ensures

pub returns-in-Err-BadIndex-clause-foreign : goal.returns-in-Err-BadIndex-clause-foreign
returns-in-Err-BadIndex-clause-foreign c =
    says_none c.args.host (Some c.args.bytes)
    (read_bad c.args.host _ c.args.bytes _ c.in-Err-BadIndex.field-0-0 c.as_slice.ensures c.in-Err-BadIndex.field-0-is
    c.in-Err-BadIndex.ensures)
