use Rattle.office_model.specs.laws.PartialsLaws.{parked_is_partial, resumed_is_partial, parked_reads}
use Rattle.office_model.proofs.laws.what_is_parked_is_resumed.Goals as goal

pub returns-clause-parked : goal.returns-clause-parked
returns-clause-parked c = parked_is_partial

pub returns-clause-resumed : goal.returns-clause-resumed
returns-clause-resumed c = resumed_is_partial

pub returns-clause-reads : goal.returns-clause-reads
returns-clause-reads c = parked_reads
