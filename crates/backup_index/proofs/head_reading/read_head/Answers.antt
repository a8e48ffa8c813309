-- The parts, one behind another.
use Rattle.std.proofs.Common.{◌∙◌}
use Rattle.wire_bytes.specs.Grammar.{field}
use Rattle.wire_bytes.specs.GrammarLaws.{field_finds, field_refuses, refused_again, refused_by, then_finds, then_refuses, first_refuses, seen_finds, seen_refuses}
use Rattle.backup_index.specs.Head.{sees_head}
use Rattle.backup_index.proofs.head_reading.read_head.Goals as goal

pub returns-in_err-read_magic : goal.returns-in_err-read_magic
returns-in_err-read_magic c =
    refused_by _ _ _ c.from_residual.ensures.1 (λ e told. seen_refuses sees_head (first_refuses _ (field_refuses c.in_err-read_magic.ensures.field.reads (told ∙ c.in_err-read_magic.ensures.here))))

pub returns-in_err-epoch : goal.returns-in_err-epoch
returns-in_err-epoch c =
    refused_by _ _ _ c.from_residual-in_err-epoch.ensures.1 (λ e told. seen_refuses sees_head (then_refuses _ (field_finds c.in_ok-read_magic.ensures.field.reads)
    (first_refuses _ (field_refuses c.in_err-epoch.ensures.field.reads (told ∙ c.in_err-epoch.ensures.here)))))

pub returns-in_err-count : goal.returns-in_err-count
returns-in_err-count c =
    refused_again _ _ _ c.from_residual-in_err-count.ensures.1 (seen_refuses sees_head (then_refuses _ (field_finds c.in_ok-read_magic.ensures.field.reads)
    (then_refuses _ (field_finds c.in_ok-epoch.ensures.field.reads) (first_refuses _ c.in_err-count.ensures))))

pub read_names-requires : goal.read_names-requires
unfolding field
read_names-requires c = c.in_ok-count.ensures.fits

pub returns-in_err-names : goal.returns-in_err-names
returns-in_err-names c =
    refused_again _ _ _ c.from_residual-in_err-names.ensures.1 (seen_refuses sees_head (then_refuses _ (field_finds c.in_ok-read_magic.ensures.field.reads)
    (then_refuses _ (field_finds c.in_ok-epoch.ensures.field.reads) (then_refuses _ c.in_ok-count.ensures c.in_err-names.ensures))))

pub returns : goal.returns
returns c =
    seen_finds sees_head (then_finds _ (field_finds c.in_ok-read_magic.ensures.field.reads)
    (then_finds _ (field_finds c.in_ok-epoch.ensures.field.reads) (then_finds _ c.in_ok-count.ensures c.in_ok-names.ensures)))
