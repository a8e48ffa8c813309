use Rattle.keep_rules.specs.SetLaws.{kept_set_exists}
use Rattle.keep_rules.proofs.laws.kept_set_exists.Goals as goal

pub returns : goal.returns
returns c = kept_set_exists
