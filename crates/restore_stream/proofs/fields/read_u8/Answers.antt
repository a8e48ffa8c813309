use Rattle.restore_stream.specs.Streams.{u8_field}
use Rattle.restore_stream.proofs.ReadingLaws.{reads_again}
use Rattle.restore_stream.proofs.FieldLaws.{number_came, number_short}
use Rattle.std.specs.Prelude.{⊤}
use Rattle.std.specs.Int.{w8}
use Rattle.std.proofs.Common.{rules}
use Rattle.wire_bytes.specs.Layout.{number_of}
use Rattle.restore_stream.proofs.fields.read_u8.Goals as goal

pub returns-in_err-fill-clause-read : goal.returns-in_err-fill-clause-read
returns-in_err-fill-clause-read g c =
    reads_again (u8_field (λ _. ⊤)) 0 _ _ (λ n. n) _ _ c.from_residual.ensures.1
    (number_short w8 tt 0 _ _ c.in_err-fill.ensures.faults c.in_err-fill.ensures.short)

pub returns-clause-read : goal.returns-clause-read
unfolding number_of
returns-clause-read g c =
    number_came w8 tt _ _ c.fill.new.room _ (search rules) c.in_ok-fill.ensures.bytes (search rules)
    c.in_ok-fill.ensures.told
