use Rattle.keep_rules.proofs.GapLaws.{gap_fails}
use Rattle.keep_rules.proofs.laws.gap_fails.Goals as goal

pub returns : goal.returns
returns c = gap_fails
