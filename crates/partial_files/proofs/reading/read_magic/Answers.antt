use Rattle.std.proofs.Common.{◌∙◌}
use Rattle.wire_bytes.specs.GrammarLaws.{field_finds, field_refuses, refused_by}
use Rattle.partial_files.proofs.reading.read_magic.Goals as goal

pub returns-in_err-read_magic : goal.returns-in_err-read_magic
returns-in_err-read_magic c =
    refused_by _ _ _ c.from_residual.ensures.1
    (λ e told. field_refuses c.in_err-read_magic.ensures.field.reads (told ∙ c.in_err-read_magic.ensures.here))

pub returns : goal.returns
returns c = field_finds c.in_ok-read_magic.ensures.field.reads
