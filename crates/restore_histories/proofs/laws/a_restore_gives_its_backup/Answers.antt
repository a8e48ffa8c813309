use Rattle.restore_histories.specs.GivenLaws.{restore_gives}
use Rattle.restore_histories.proofs.laws.a_restore_gives_its_backup.Goals as goal

pub returns : goal.returns
returns c = restore_gives
