use Rattle.std.specs.Prelude.{⊤}
use Rattle.restore_stream.specs.Streams.{text_field16}
use Rattle.restore_stream.proofs.ReadingLaws.{reads_again}
use Rattle.restore_stream.proofs.FieldLaws.{text_came, length_refuses, text_refuses}
use Rattle.restore_stream.proofs.fields.read_text16.Goals as goal

pub returns-in_err-count-clause-read : goal.returns-in_err-count-clause-read
returns-in_err-count-clause-read g c =
    reads_again (text_field16 (λ _. ⊤)) 0 _ _ (λ text. text.items) _ _ c.from_residual.ensures.1
    (length_refuses 0 _ _ c.in_err-count.ensures.read)

pub returns-in_err-text-clause-read : goal.returns-in_err-text-clause-read
returns-in_err-text-clause-read g c =
    reads_again (text_field16 (λ _. ⊤)) 0 _ _ (λ text. text.items) _ _ c.from_residual-in_err-text.ensures.1
    (text_refuses 0 _ _ _ c.from.result _ c.from.ensures c.in_ok-count.ensures.read c.in_err-text.ensures.read)

pub returns-clause-read : goal.returns-clause-read
returns-clause-read g c = text_came _ _ _ _ c.from.result _ c.from.ensures c.in_ok-count.ensures.read c.in_ok-text.ensures.read
