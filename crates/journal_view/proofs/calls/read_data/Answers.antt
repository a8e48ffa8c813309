use Rattle.std.proofs.Common.{refl}
use Rattle.disk_trait.specs.declared.ids.FileId.TheVariants.{Pool}
use Rattle.journal_view.specs.ViewLaws.{seen_read}
use Rattle.journal_view.proofs.calls.read_data.Goals as goal

pub returns-in-Ok-clause-found : goal.returns-in-Ok-clause-found
returns-in-Ok-clause-found g c = λ all is.
    seen_read (g.D.Disk.files c.args.journal.now.disk) all (Pool c.args.id) _ refl c.in-Ok.ensures.found is
