use Rattle.journal_view.specs.ViewLaws.{committed_of}
use Rattle.journal_view.proofs.calls.commit.Goals as goal

pub returns : goal.returns
returns g c =
    committed_of c.args.journal.now c.args.changes.now c.commit.result c.commit.new.self g.met.D.Disk.counts_now (g.met.D.Disk.tells _ _)
    (g.met.D.Disk.tells _ _) c.requires.ready c.requires.changes c.commit.ensures
