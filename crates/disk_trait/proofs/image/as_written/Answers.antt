use Rattle.std.proofs.Common.{◌++◌, List, ap, ◌∙◌}
use Rattle.disk_trait.specs.declared.log.Entry.{Entry}
use Rattle.disk_trait.proofs.Imaging.{written_kept, written_files}
use Rattle.disk_trait.proofs.image.as_written.Goals as goal

pub begun-requires : goal.begun-requires
begun-requires c =
    written_kept c.args.log.now.bytes.items _ c.args.log.now.start.items c.args.older.now _ c.requires.start c.requires.older
    (c.in_ok-bytes.ensures.items ∙ c.as_slice.ensures.value) (c.in_ok-start.ensures ∙ ap (λ (first : List Entry). first ++ c.args.older.now) c.as_slice-2.ensures.value)

pub returns-in-Ok-clause-files : goal.returns-in-Ok-clause-files
returns-in-Ok-clause-files c =
    c.in-Ok.ensures.start
    ∙ written_files c.args.log.now.bytes.items _ c.args.log.now.start.items c.args.older.now _ c.requires.start c.requires.older
    (c.in_ok-bytes.ensures.items ∙ c.as_slice.ensures.value) (c.in_ok-start.ensures ∙ ap (λ (first : List Entry). first ++ c.args.older.now) c.as_slice-2.ensures.value)
