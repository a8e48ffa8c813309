use Rattle.replicas.specs.ReplicaLaws.{pull_brings, done_brings_all}
use Rattle.replicas.proofs.laws.a_pull_makes_a_replica.Goals as goal

pub returns-clause-brings : goal.returns-clause-brings
returns-clause-brings c = pull_brings

pub returns-clause-all : goal.returns-clause-all
returns-clause-all c = done_brings_all
