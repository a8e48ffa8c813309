use Rattle.remote_port.proofs.ServedLemmas.{answered, served}
use Rattle.remote_port.proofs.laws.heard_calls_are_served.Goals as goal

pub returns-clause-answered : goal.returns-clause-answered
returns-clause-answered g c =
    answered g.C.Codec.may g.C.Codec.request_of g.C.Codec.refusal_of g.C.Codec.says g.C.Codec.in_range g.C.Codec.at

pub returns-clause-served : goal.returns-clause-served
returns-clause-served g c =
    served g.C.Codec.may g.C.Codec.request_of g.C.Codec.refusal_of g.C.Codec.says g.C.Codec.in_range g.C.Codec.at
