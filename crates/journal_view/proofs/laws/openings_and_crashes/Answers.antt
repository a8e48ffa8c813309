use Rattle.journal_view.specs.Found.{CanFind}
use Rattle.journal_view.specs.FoundLaws.{openable}
use Rattle.journal_view.specs.ChainLaws.{restarts_find}
use Rattle.journal_view.proofs.laws.openings_and_crashes.Goals as goal

pub returns : goal.returns
returns g c = λ all disks is opens restarts.
    let first = c.args.journal.now.disk in
    restarts_find g.D.Disk g.met.D.Disk.only_now (CanFind (g.D.Disk.files first) (g.D.Disk.uncertain first)) first all disks is
    (openable (g.D.Disk.files first) (g.D.Disk.uncertain first) opens) restarts
