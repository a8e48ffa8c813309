use Rattle.peer_talk.proofs.MirrorLaws.{talk-asked, short-whole}
use Rattle.peer_talk.proofs.laws.talks_are_asked.Goals as goal

pub returns-clause-asked : goal.returns-clause-asked
returns-clause-asked c = talk-asked

pub returns-clause-whole : goal.returns-clause-whole
returns-clause-whole c = short-whole
