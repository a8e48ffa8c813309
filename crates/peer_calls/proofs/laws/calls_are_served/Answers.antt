use Rattle.peer_calls.proofs.ServedLaws.{calls-served, talks-served}
use Rattle.peer_calls.proofs.laws.calls_are_served.Goals as goal

pub returns-clause-calls : goal.returns-clause-calls
returns-clause-calls c = calls-served

pub returns-clause-talks : goal.returns-clause-talks
returns-clause-talks c = talks-served
