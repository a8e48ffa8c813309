use Rattle.std.proofs.Common.{refl}
use Rattle.remote_port.specs.Ports.{connection_of}
use Rattle.remote_port.proofs.CallLemmas.{call-heard, call-lost}
use Rattle.remote_port.proofs.port.RemotePort.ask.Goals as goal

pub returns-in-Ok-clause-moved : goal.returns-in-Ok-clause-moved
returns-in-Ok-clause-moved g c =
    call-heard g.C.Codec.may g.C.Codec.request_of g.C.Codec.refusal_of g.C.Codec.says (connection_of c.args.self.now) _ c.args.event.now
    c.in-Ok.reply c.requires.open c.requires.open c.requires.may c.in-Ok.ensures.heard c.in-Ok.ensures.counted

pub returns-in-Err-clause-moved : goal.returns-in-Err-clause-moved
returns-in-Err-clause-moved g c =
    call-lost g.C.Codec.may g.C.Codec.request_of g.C.Codec.refusal_of g.C.Codec.says (connection_of c.args.self.now) _ c.args.event.now
    c.in-Err.end c.requires.open refl c.requires.may c.in-Err.ensures.heard c.in-Err.ensures.counted
