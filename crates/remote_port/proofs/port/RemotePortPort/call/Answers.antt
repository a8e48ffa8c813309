use Rattle.std.specs.Prelude.{is_some}
use Rattle.std.proofs.Common.{sym, ap, ◌∙◌}
use Rattle.remote_port.specs.Ports.{connection_of}
use Rattle.remote_port.proofs.CallLemmas.{goes-on, call-ended, call-unasked, call-barred}
use Rattle.remote_port.proofs.port.RemotePortPort.call.Goals as goal

pub returns-then-is_some-clause-moved : goal.returns-then-is_some-clause-moved
returns-then-is_some-clause-moved g c =
    call-ended g.C.Codec.may g.C.Codec.request_of g.C.Codec.refusal_of g.C.Codec.says (connection_of c.args.self.now) c.args.event.now
    (sym c.is_some.ensures ∙ c.if-is_some.true)

pub returns-in-Ok-None-clause-moved : goal.returns-in-Ok-None-clause-moved
returns-in-Ok-None-clause-moved g c =
    call-barred g.C.Codec.may g.C.Codec.request_of g.C.Codec.refusal_of g.C.Codec.says (connection_of c.args.self.now) c.args.event.now
    c.refusal.result (goes-on c.args.self.now.end (sym c.is_some.ensures ∙ c.if-is_some.false))
    (sym c.in-Ok-None.ensures.may ∙ ap is_some c.in-Ok-None.field-0-is) c.refusal.ensures

pub returns-in-Err-clause-moved : goal.returns-in-Err-clause-moved
returns-in-Err-clause-moved g c =
    call-unasked g.C.Codec.may g.C.Codec.request_of g.C.Codec.refusal_of g.C.Codec.says (connection_of c.args.self.now) c.args.event.now
    (goes-on c.args.self.now.end (sym c.is_some.ensures ∙ c.if-is_some.false))
