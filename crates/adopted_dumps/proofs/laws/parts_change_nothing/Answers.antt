use Rattle.adopted_dumps.specs.PartLaws as PartLaws
use Rattle.adopted_dumps.specs.AdoptedLaws.{fault_may_gain}
use Rattle.adopted_dumps.proofs.laws.parts_change_nothing.Goals as goal

pub returns-clause-same : goal.returns-clause-same
returns-clause-same c = PartLaws.parts_change_nothing

pub returns-clause-fault : goal.returns-clause-fault
returns-clause-fault c = fault_may_gain
