use Rattle.journal_view.specs.ViewLaws.{seen_read}
use Rattle.journal_view.proofs.calls.get.Goals as goal

pub returns-in-Ok-clause-found : goal.returns-in-Ok-clause-found
returns-in-Ok-clause-found g c =
    λ all is. seen_read (g.D.Disk.files c.args.journal.now.disk) all c.args.file _ c.requires.seen c.in-Ok.ensures.found is
