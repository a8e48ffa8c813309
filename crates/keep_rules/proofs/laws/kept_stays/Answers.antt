use Rattle.keep_rules.specs.FlagLaws.{kept_stays}
use Rattle.keep_rules.proofs.laws.kept_stays.Goals as goal

pub returns : goal.returns
returns c = kept_stays
