-- The parts, one behind another.
use Rattle.std.proofs.Common.{◌∙◌, sym}
use Rattle.wire_bytes.specs.Grammar.{field, followed_by}
use Rattle.wire_bytes.specs.GrammarLaws.{field_finds, field_refuses, refused_again, refused_by, then_finds, then_refuses, first_refuses, seen_finds, seen_refuses}
use Rattle.backup_index.specs.IndexLaws.{sees_index, lines_sound}
use Rattle.backup_index.proofs.Founds.{found_as}
use Rattle.backup_index.proofs.index_reading.read_index.Goals as goal

pub returns-in_err-layout : goal.returns-in_err-layout
returns-in_err-layout c = refused_again _ _ _ c.from_residual.ensures.1 (seen_refuses sees_index (first_refuses _ c.in_err-layout.ensures))

pub returns-in_err-host : goal.returns-in_err-host
returns-in_err-host c =
    refused_by _ _ _ c.from_residual-in_err-host.ensures.1
    (λ e told. seen_refuses sees_index (then_refuses _ c.in_ok-layout.ensures (first_refuses _ (field_refuses c.in_err-host.ensures.field.reads (told ∙ c.in_err-host.ensures.here)))))

pub returns-in_err-name : goal.returns-in_err-name
returns-in_err-name c =
    refused_again _ _ _ c.from_residual-in_err-name.ensures.1
    (seen_refuses sees_index (then_refuses _ c.in_ok-layout.ensures (then_refuses _ (field_finds c.in_ok-host.ensures.field.reads) (first_refuses _ c.in_err-name.ensures))))

pub returns-in_err-rules : goal.returns-in_err-rules
returns-in_err-rules c =
    refused_again _ _ _ c.from_residual-in_err-rules.ensures.1
    (seen_refuses sees_index (then_refuses _ c.in_ok-layout.ensures (then_refuses _ (field_finds c.in_ok-host.ensures.field.reads)
    (then_refuses _ c.in_ok-name.ensures (first_refuses _ c.in_err-rules.ensures)))))

pub returns-in_err-receipts : goal.returns-in_err-receipts
returns-in_err-receipts c =
    refused_again _ _ _ c.from_residual-in_err-receipts.ensures.1
    (seen_refuses sees_index (then_refuses _ c.in_ok-layout.ensures (then_refuses _ (field_finds c.in_ok-host.ensures.field.reads)
    (then_refuses _ c.in_ok-name.ensures (then_refuses _ c.in_ok-rules.ensures (first_refuses _ c.in_err-receipts.ensures))))))

pub returns-in_err-numbers : goal.returns-in_err-numbers
returns-in_err-numbers c =
    refused_again _ _ _ c.from_residual-in_err-numbers.ensures.1
    (seen_refuses sees_index (then_refuses _ c.in_ok-layout.ensures (then_refuses _ (field_finds c.in_ok-host.ensures.field.reads)
    (then_refuses _ c.in_ok-name.ensures (then_refuses _ c.in_ok-rules.ensures (then_refuses _ c.in_ok-receipts.ensures (first_refuses _ c.in_err-numbers.ensures)))))))

pub returns-in_err-lines : goal.returns-in_err-lines
returns-in_err-lines c =
    refused_again _ _ _ c.from_residual-in_err-lines.ensures.1
    (seen_refuses sees_index (then_refuses _ c.in_ok-layout.ensures (then_refuses _ (field_finds c.in_ok-host.ensures.field.reads)
    (then_refuses _ c.in_ok-name.ensures (then_refuses _ c.in_ok-rules.ensures (then_refuses _ c.in_ok-receipts.ensures
    (then_refuses _ c.in_ok-numbers.ensures c.in_err-lines.ensures)))))))

pub from_sound-requires : goal.from_sound-requires
unfolding field followed_by
from_sound-requires c = lines_sound _ _ _ c.in_ok-numbers.ensures.fits.1.1.0 c.in_ok-lines.ensures.fits

pub returns : goal.returns
returns c =
    found_as (λ i. (c.in_ok-layout.layout, sym c.from_sound.ensures i))
    (seen_finds sees_index (then_finds _ c.in_ok-layout.ensures (then_finds _ (field_finds c.in_ok-host.ensures.field.reads)
    (then_finds _ c.in_ok-name.ensures (then_finds _ c.in_ok-rules.ensures (then_finds _ c.in_ok-receipts.ensures
    (then_finds _ c.in_ok-numbers.ensures c.in_ok-lines.ensures)))))))
