use Rattle.keep_rules.specs.FlagLaws.{flags_are_named}
use Rattle.keep_rules.proofs.laws.flags_are_named.Goals as goal

pub returns : goal.returns
returns c = flags_are_named
