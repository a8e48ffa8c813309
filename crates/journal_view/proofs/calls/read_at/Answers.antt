use Rattle.journal_view.specs.ViewLaws.{seen_piece}
use Rattle.journal_view.proofs.calls.read_at.Goals as goal

pub returns-in-Ok-clause-found : goal.returns-in-Ok-clause-found
returns-in-Ok-clause-found g c = λ all is.
    seen_piece (g.D.Disk.files c.args.journal.now.disk) all c.args.file c.args.offset c.args.room _ c.requires.seen c.in-Ok.ensures.found is
