use Rattle.folder_making.specs.Made.{ended}
use Rattle.folder_making.proofs.Results.{on_ok}
use Rattle.folder_making.proofs.MakeSteps.{begun_next}
use Rattle.folder_making.proofs.making.Making.begin.Goals as goal

pub returns-clause-holds : goal.returns-clause-holds
returns-clause-holds g c = on_ok c.begin_node.result c.begin_node.ensures.holds (λ begins made more left h split.
    let next = begun_next made more left c.args.path c.args.node split in
    begins (ended made) next.0 left (c.in-Ok.ensures.holds made more next.0 h next.1) next.2)
