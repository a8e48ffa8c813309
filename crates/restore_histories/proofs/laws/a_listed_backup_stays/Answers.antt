use Rattle.restore_histories.specs.ListedLaws.{listed_stays}
use Rattle.restore_histories.proofs.laws.a_listed_backup_stays.Goals as goal

pub returns : goal.returns
returns c = listed_stays
