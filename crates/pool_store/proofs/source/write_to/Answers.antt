use Rattle.std.proofs.Common.{◌≡◌, List, [], Some, ap, ◌∙◌, refl, arith}
use Rattle.disk_trait.specs.declared.ids.FileId.TheVariants.{Pool}
use Rattle.disk_trait.specs.Files.{with_bytes}
use Rattle.pool_store.proofs.Sourcing.{in_memory, changed_told}
use Rattle.pool_store.proofs.source.write_to.Goals as goal

pub returns-in-Ok-clause-told : goal.returns-in-Ok-clause-told
returns-in-Ok-clause-told g c = λ content is.
    let told = g.D.Disk.files c.args.journal.now.disk in
    let same : c.in-Bytes.bytes.now ≡ content = in_memory c.args.source.now c.in-Bytes.bytes told content c.in-Bytes.is is in
    changed_told told (g.D.Disk.files c.put_piece.new.journal.disk) (Pool c.args.id) content c.in-Ok.ensures.rewrites.others
    (λ all e. c.in-Ok.ensures.told all [] e refl (λ some. absurd (omega (arith, some)))
    ∙ ap (λ (b : List _). Some (with_bytes all (Pool c.args.id) (Some b))) same)
