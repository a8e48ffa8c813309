use Rattle.replicas.specs.StoppedLaws.{stopped_pull_brings}
use Rattle.replicas.proofs.laws.a_stopped_pull_is_a_replica.Goals as goal

pub returns : goal.returns
returns c = stopped_pull_brings
