use Rattle.std.proofs.Common.{sym, ◌∙◌}
use Rattle.http_wire.specs.Wires.{seen_of}
use Rattle.http_client.specs.Requests.{ask_of}
use Rattle.peer_exchange.proofs.ExchangeLemmas.{Exchanges-unwritten, Exchanges-unasked, Exchanges-unsent, Exchanges-heard, stayed-unasked, Counted-failed, Counted-unasked, Counted-unsent, Counted-heard}
use Rattle.peer_exchange.proofs.asking.exchange.Goals as goal

pub returns-in-Err-LinkFault-clause-exchanged : goal.returns-in-Err-LinkFault-clause-exchanged
returns-in-Err-LinkFault-clause-exchanged g c =
    Exchanges-unwritten (seen_of c.args.wire.now) (seen_of c.write_request.new.wire) (ask_of c.args.request.now) c.args.wanted c.args.most
    c.in-Err-LinkFault.ensures.front c.in-Err-LinkFault.ensures.left

pub returns-in-Err-LinkFault-clause-counted : goal.returns-in-Err-LinkFault-clause-counted
returns-in-Err-LinkFault-clause-counted g c =
    Counted-failed _ _ c.in-Err-LinkFault.field-0 c.in-Err-LinkFault.field-0-is c.in-Err-LinkFault.ensures.counted

pub returns-in-Err-Memory-clause-exchanged : goal.returns-in-Err-Memory-clause-exchanged
returns-in-Err-Memory-clause-exchanged g c =
    Exchanges-unasked (seen_of c.args.wire.now) (seen_of c.write_request.new.wire) (ask_of c.args.request.now) c.args.wanted c.args.most
    (c.in-Err-Memory.ensures.memory c.in-Err-Memory.field-0-is) c.in-Err-Memory.ensures.sent c.in-Err-Memory.ensures.left
    (stayed-unasked _ _ c.in-Err-Memory.field-0 c.in-Err-Memory.field-0-is c.in-Err-Memory.ensures.counted)

pub returns-in-Err-Memory-clause-counted : goal.returns-in-Err-Memory-clause-counted
returns-in-Err-Memory-clause-counted g c =
    Counted-unasked _ _ c.in-Err-Memory.field-0 c.in-Err-Memory.field-0-is c.in-Err-Memory.ensures.counted

pub returns-in-Ok-send-clause-exchanged : goal.returns-in-Ok-send-clause-exchanged
returns-in-Ok-send-clause-exchanged g c =
    Exchanges-heard (seen_of c.args.wire.now) (seen_of c.send.new.self) (ask_of c.args.request.now) c.args.wanted c.args.most
    c.read_response-read.result c.judged.result _ _ c.judged.ensures
    (c.in-Ok-send.ensures.written ∙ c.read_response-read.ensures.written ∙ c.in-Ok.ensures.all)
    (c.in-Ok-send.ensures.sent ∙ sym c.in-Ok-send.ensures.written)
    c.in-Ok.ensures.left c.in-Ok-send.ensures.left c.read_response-read.ensures.read

pub returns-in-Ok-send-clause-counted : goal.returns-in-Ok-send-clause-counted
returns-in-Ok-send-clause-counted g c =
    Counted-heard _ _ _ _ c.args.wanted c.read_response-read.result c.judged.result _ c.judged.ensures c.in-Ok.ensures.counted
    c.read_response-read.ensures.counted c.in-Ok-send.ensures.counted

pub returns-in-Err-clause-exchanged : goal.returns-in-Err-clause-exchanged
returns-in-Err-clause-exchanged g c =
    Exchanges-unsent (seen_of c.args.wire.now) (seen_of c.send.new.self) (ask_of c.args.request.now) c.args.wanted c.args.most
    c.read_response-read.result _ _ (c.in-Err.ensures.written ∙ c.read_response-read.ensures.written ∙ c.in-Ok.ensures.all)
    c.in-Ok.ensures.left c.in-Err.ensures.left c.read_response-read.ensures.read

pub returns-in-Err-clause-counted : goal.returns-in-Err-clause-counted
returns-in-Err-clause-counted g c =
    Counted-unsent _ _ _ _ _ _ c.in-Ok.ensures.counted c.read_response-read.ensures.counted c.in-Err.ensures.counted
