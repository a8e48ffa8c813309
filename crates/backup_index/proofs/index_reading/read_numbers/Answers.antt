-- The numbers, one behind another.
use Rattle.std.proofs.Common.{◌∙◌}
use Rattle.wire_bytes.specs.GrammarLaws.{field_finds, field_refuses, refused_again, refused_by, then_finds, then_refuses, first_refuses}
use Rattle.backup_index.proofs.index_reading.read_numbers.Goals as goal

pub returns-in_err-good : goal.returns-in_err-good
returns-in_err-good c = refused_by _ _ _ c.from_residual.ensures.1 (λ e told. first_refuses _ (field_refuses c.in_err-good.ensures.field.reads (told ∙ c.in_err-good.ensures.here)))

pub returns-in_err-bad : goal.returns-in_err-bad
returns-in_err-bad c =
    refused_by _ _ _ c.from_residual-in_err-bad.ensures.1
    (λ e told. then_refuses _ (field_finds c.in_ok-good.ensures.field.reads) (first_refuses _ (field_refuses c.in_err-bad.ensures.field.reads (told ∙ c.in_err-bad.ensures.here))))

pub returns-in_err-next : goal.returns-in_err-next
returns-in_err-next c =
    refused_again _ _ _ c.from_residual-in_err-next.ensures.1
    (then_refuses _ (field_finds c.in_ok-good.ensures.field.reads) (then_refuses _ (field_finds c.in_ok-bad.ensures.field.reads) (first_refuses _ c.in_err-next.ensures)))

pub returns-in_err-count : goal.returns-in_err-count
returns-in_err-count c =
    refused_by _ _ _ c.from_residual-in_err-count.ensures.1
    (λ e told. then_refuses _ (field_finds c.in_ok-good.ensures.field.reads) (then_refuses _ (field_finds c.in_ok-bad.ensures.field.reads)
    (then_refuses _ c.in_ok-next.ensures (field_refuses c.in_err-count.ensures.field.reads (told ∙ c.in_err-count.ensures.here)))))

pub returns : goal.returns
returns c =
    then_finds _ (field_finds c.in_ok-good.ensures.field.reads) (then_finds _ (field_finds c.in_ok-bad.ensures.field.reads)
    (then_finds _ c.in_ok-next.ensures (field_finds c.in_ok-count.ensures.field.reads)))
