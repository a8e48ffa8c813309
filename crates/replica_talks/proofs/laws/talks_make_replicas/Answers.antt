use Rattle.replica_talks.proofs.Replicas.{talks_replicate, done_talks_bring}
use Rattle.replica_talks.proofs.laws.talks_make_replicas.Goals as goal

pub returns-clause-brings : goal.returns-clause-brings
returns-clause-brings c = talks_replicate

pub returns-clause-all : goal.returns-clause-all
returns-clause-all c = done_talks_bring
