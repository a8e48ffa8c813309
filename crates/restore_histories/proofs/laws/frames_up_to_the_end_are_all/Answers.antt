use Rattle.restore_histories.specs.RunLaws.{run_begins}
use Rattle.restore_histories.proofs.laws.frames_up_to_the_end_are_all.Goals as goal

pub returns : goal.returns
returns c = run_begins
