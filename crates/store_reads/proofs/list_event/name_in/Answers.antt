use Rattle.std.proofs.Common.{◌+◌, ◌∙◌, ap, length, drop, arith}
use Rattle.attr_records.specs.PathRules.{broken_path_rule}
use Rattle.store_reads.proofs.NameLaws.{HasName, has_name}
use Rattle.store_reads.proofs.list_event.name_in.Goals as goal

pub split_at-requires : goal.split_at-requires
split_at-requires c =
    let h : HasName c.args.path.now c.args.directory.now =
    has_name c.args.path.now c.args.directory.now c.as_slice-path.ensures.valid c.requires in
    omega (arith, h.within, ap length c.as_slice-directory.ensures.value, ap length c.as_slice-path.ensures.value)

pub from_valid-requires : goal.from_valid-requires
from_valid-requires c =
    let h : HasName c.args.path.now c.args.directory.now =
    has_name c.args.path.now c.args.directory.now c.as_slice-path.ensures.valid c.requires in
    ap broken_path_rule (c.split_at.ensures.back
    ∙ ap (λ d. drop (length d + 1) c.as_slice-path.result.now) c.as_slice-directory.ensures.value
    ∙ ap (drop (length c.args.directory.now + 1)) c.as_slice-path.ensures.value) ∙ h.valid
