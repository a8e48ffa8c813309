use Rattle.keep_rules.proofs.GapLaws.{gap_is_least}
use Rattle.keep_rules.proofs.laws.gap_is_least.Goals as goal

pub returns : goal.returns
returns c = gap_is_least
