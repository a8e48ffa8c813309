use Rattle.journal_view.specs.View.{told}
use Rattle.store_deletions.specs.FaultsLaws.{plan_awake}
use Rattle.store_deletions.proofs.planning.plan_deletion.Goals as goal

pub returns-in-Err-clause-awake : goal.returns-in-Err-clause-awake
returns-in-Err-clause-awake g c =
    plan_awake (told c.args.parts.now.journal) c.args.parts.now.catalog c.args.host c.in-Err.refusal c.in-Err.ensures.refused
