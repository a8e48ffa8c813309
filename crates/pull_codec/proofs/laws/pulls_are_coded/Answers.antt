use Rattle.pull_codec.proofs.EventLaws.{requests-are}
use Rattle.pull_codec.proofs.PullLaws.{pulls-coded}
use Rattle.pull_codec.proofs.ReadLaws.{answers-said}
use Rattle.pull_codec.proofs.laws.pulls_are_coded.Goals as goal

pub returns-clause-codec : goal.returns-clause-codec
returns-clause-codec c = pulls-coded

pub returns-clause-said : goal.returns-clause-said
returns-clause-said c = answers-said

pub returns-clause-requests : goal.returns-clause-requests
returns-clause-requests c = requests-are
