use Rattle.replicas.specs.ForeignLaws.{foreign_is_read}
use Rattle.replicas.proofs.laws.no_frame_is_foreign.Goals as goal

pub returns : goal.returns
returns c = foreign_is_read
