use Rattle.journal_view.specs.ViewLaws.{seen_listed}
use Rattle.journal_view.proofs.calls.list.Goals as goal

pub returns-in-Ok-clause-found : goal.returns-in-Ok-clause-found
returns-in-Ok-clause-found g c = λ all is. seen_listed (g.D.Disk.files c.args.journal.now.disk) all _ c.in-Ok.ensures.found is
