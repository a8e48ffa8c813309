use Rattle.keep_rules.specs.SetLaws.{kept_sets_agree}
use Rattle.keep_rules.proofs.laws.kept_sets_agree.Goals as goal

pub returns : goal.returns
returns c = kept_sets_agree
