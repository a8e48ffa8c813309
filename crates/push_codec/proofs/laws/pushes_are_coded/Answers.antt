use Rattle.push_codec.proofs.CodecLaws.{pushes-coded, replies-said}
use Rattle.push_codec.proofs.EventLaws.{requests-read, requests-are}
use Rattle.push_codec.proofs.laws.pushes_are_coded.Goals as goal

pub returns-clause-codec : goal.returns-clause-codec
returns-clause-codec c = pushes-coded

pub returns-clause-read : goal.returns-clause-read
returns-clause-read c = requests-read

pub returns-clause-requests : goal.returns-clause-requests
returns-clause-requests c = requests-are

pub returns-clause-said : goal.returns-clause-said
returns-clause-said c = replies-said
