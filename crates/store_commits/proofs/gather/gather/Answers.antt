-- What is read, and a fault of reading or of counting.
use Rattle.store_commits.specs.GatherLaws.{read_gathers}
use Rattle.store_commits.proofs.gather.gather.Goals as goal

pub returns-in-Err-clause-kind : goal.returns-in-Err-clause-kind
returns-in-Err-clause-kind g c =
    read_gathers _ c.args.held.now c.args.place c.args.lines.file c.args.head c.args.lines.dropped c.in-Err.refusal c.in-Err.ensures.kind
