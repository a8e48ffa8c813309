use Rattle.entries_back.proofs.BackLaws.{entries-back}
use Rattle.entries_back.proofs.laws.entries_read_back.Goals as goal

pub returns : goal.returns
returns c = entries-back
