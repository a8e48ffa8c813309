use Rattle.pull_codec.proofs.PullLaws.{pulls-answered, pulls-served}
use Rattle.pull_codec.proofs.laws.pulls_are_served.Goals as goal

pub returns-clause-answered : goal.returns-clause-answered
returns-clause-answered c = pulls-answered

pub returns-clause-talks : goal.returns-clause-talks
returns-clause-talks c = pulls-served
