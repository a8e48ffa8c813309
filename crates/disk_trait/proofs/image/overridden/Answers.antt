use Rattle.std.proofs.Common.{◌++◌, List, ap, ◌∙◌}
use Rattle.disk_trait.specs.declared.log.Entry.{Entry}
use Rattle.disk_trait.proofs.Imaging.{overridden_kept, overridden_files}
use Rattle.disk_trait.proofs.image.overridden.Goals as goal

pub begun-requires : goal.begun-requires
begun-requires c =
    overridden_kept c.args.log.now.bytes.items _ c.args.log.now.start.items c.args.older.now _ c.requires.start c.requires.older
    (c.in_ok-bytes.ensures.items ∙ c.as_slice.ensures.value) (c.in_ok-start.ensures ∙ ap (λ (first : List Entry). first ++ c.args.older.now) c.as_slice-2.ensures.value)
    c.args.byte _ _ _ _ c.in_ok-span.ensures c.in_ok-over.ensures (c.in_ok-extend_from_slice.ensures.items ∙ ap (λ (last : List Entry). c.in_ok-start.start.items ++ last) c.as_slice-3.ensures.value)

pub returns-in-Ok-clause-files : goal.returns-in-Ok-clause-files
returns-in-Ok-clause-files c =
    c.in-Ok.ensures.start
    ∙ overridden_files c.args.log.now.bytes.items _ c.args.log.now.start.items c.args.older.now _ c.requires.start c.requires.older
    (c.in_ok-bytes.ensures.items ∙ c.as_slice.ensures.value) (c.in_ok-start.ensures ∙ ap (λ (first : List Entry). first ++ c.args.older.now) c.as_slice-2.ensures.value)
    c.args.byte _ _ _ _ c.in_ok-span.ensures c.in_ok-over.ensures (c.in_ok-extend_from_slice.ensures.items ∙ ap (λ (last : List Entry). c.in_ok-start.start.items ++ last) c.as_slice-3.ensures.value)
