use Rattle.restore_stream.specs.Streams.{u16_field}
use Rattle.restore_stream.proofs.ReadingLaws.{reads_again}
use Rattle.restore_stream.proofs.FieldLaws.{number_came, number_short}
use Rattle.std.specs.Prelude.{⊤}
use Rattle.std.specs.Int.{w16}
use Rattle.std.proofs.Common.{rules}
use Rattle.wire_bytes.specs.Layout.{number_of}
use Rattle.restore_stream.proofs.fields.read_u16.Goals as goal

pub returns-in_err-fill-clause-read : goal.returns-in_err-fill-clause-read
returns-in_err-fill-clause-read g c =
    reads_again (u16_field (λ _. ⊤)) 0 _ _ (λ n. n) _ _ c.from_residual.ensures.1
    (number_short w16 tt 0 _ _ c.in_err-fill.ensures.faults c.in_err-fill.ensures.short)

pub returns-clause-read : goal.returns-clause-read
unfolding number_of
returns-clause-read g c =
    number_came w16 tt _ _ c.fill.new.room c.from_be_bytes.result (search rules) c.in_ok-fill.ensures.bytes c.from_be_bytes.ensures
    c.in_ok-fill.ensures.told
