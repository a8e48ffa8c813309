use Rattle.office_store.specs.MovesLaws.{Moves-one}
use Rattle.office_store.proofs.port.DirectPortPort.call.Goals as goal

pub returns-clause-moved : goal.returns-clause-moved
returns-clause-moved g c = Moves-one _ _ _ _ c.apply.ensures.serves

pub returns-clause-in_kind : goal.returns-clause-in_kind
returns-clause-in_kind g c = c.apply.ensures.serves.in_kind
