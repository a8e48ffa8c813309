use Rattle.replica_talks.proofs.Cuts.{foreign_is_cut}
use Rattle.replica_talks.proofs.Refusals.{refusals_said}
use Rattle.replica_talks.proofs.Served.{talks_heard}
use Rattle.replica_talks.proofs.laws.talks_are_heard.Goals as goal

pub returns-clause-heard : goal.returns-clause-heard
returns-clause-heard c = talks_heard

pub returns-clause-refusals : goal.returns-clause-refusals
returns-clause-refusals c = refusals_said

pub returns-clause-foreign : goal.returns-clause-foreign
returns-clause-foreign c = foreign_is_cut
