use Rattle.keep_rules.specs.FlagLaws.{newest_stays}
use Rattle.keep_rules.proofs.laws.newest_stays.Goals as goal

pub returns : goal.returns
returns c = newest_stays
