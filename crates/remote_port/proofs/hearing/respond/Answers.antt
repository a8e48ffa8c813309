use Rattle.std.proofs.Common.{sym, ◌∙◌}
use Rattle.http_wire.specs.Wires.{seen_of}
use Rattle.http_client.specs.Requests.{ask_of}
use Rattle.remote_port.proofs.HearingLemmas.{Responds-unwritten, Responds-unasked, Responds-unsent, Responds-read, stayed-unasked, Counted-failed, Counted-unasked, Counted-unsent, Counted-read}
use Rattle.remote_port.proofs.hearing.respond.Goals as goal

pub returns-in-Err-LinkFault-clause-responded : goal.returns-in-Err-LinkFault-clause-responded
returns-in-Err-LinkFault-clause-responded g c =
    Responds-unwritten (seen_of c.args.wire.now) (seen_of c.write_request.new.wire) (ask_of c.args.request.now)
    c.in-Err-LinkFault.ensures.front c.in-Err-LinkFault.ensures.left

pub returns-in-Err-LinkFault-clause-counted : goal.returns-in-Err-LinkFault-clause-counted
returns-in-Err-LinkFault-clause-counted g c =
    Counted-failed _ _ c.in-Err-LinkFault.field-0 c.in-Err-LinkFault.field-0-is c.in-Err-LinkFault.ensures.counted

pub returns-in-Err-Memory-clause-responded : goal.returns-in-Err-Memory-clause-responded
returns-in-Err-Memory-clause-responded g c =
    Responds-unasked (seen_of c.args.wire.now) (seen_of c.write_request.new.wire) (ask_of c.args.request.now)
    (c.in-Err-Memory.ensures.memory c.in-Err-Memory.field-0-is) c.in-Err-Memory.ensures.sent c.in-Err-Memory.ensures.left
    (stayed-unasked _ _ c.in-Err-Memory.field-0 c.in-Err-Memory.field-0-is c.in-Err-Memory.ensures.counted)

pub returns-in-Err-Memory-clause-counted : goal.returns-in-Err-Memory-clause-counted
returns-in-Err-Memory-clause-counted g c =
    Counted-unasked _ _ (stayed-unasked _ _ c.in-Err-Memory.field-0 c.in-Err-Memory.field-0-is c.in-Err-Memory.ensures.counted)

pub returns-in-Ok-send-clause-responded : goal.returns-in-Ok-send-clause-responded
returns-in-Ok-send-clause-responded g c =
    Responds-read (seen_of c.args.wire.now) (seen_of c.send.new.self) (ask_of c.args.request.now)
    c.read_response-read.result c.judged.result _ _ c.judged.ensures
    (c.in-Ok-send.ensures.written ∙ c.read_response-read.ensures.written ∙ c.in-Ok.ensures.all)
    (c.in-Ok-send.ensures.sent ∙ sym c.in-Ok-send.ensures.written)
    c.in-Ok.ensures.left c.in-Ok-send.ensures.left c.read_response-read.ensures.read

pub returns-in-Ok-send-clause-counted : goal.returns-in-Ok-send-clause-counted
returns-in-Ok-send-clause-counted g c =
    Counted-read _ _ _ _ c.read_response-read.result c.judged.result _ c.judged.ensures c.in-Ok.ensures.counted
    c.read_response-read.ensures.counted c.in-Ok-send.ensures.counted

pub returns-in-Err-clause-responded : goal.returns-in-Err-clause-responded
returns-in-Err-clause-responded g c =
    Responds-unsent (seen_of c.args.wire.now) (seen_of c.send.new.self) (ask_of c.args.request.now)
    c.read_response-read.result _ _ (c.in-Err.ensures.written ∙ c.read_response-read.ensures.written ∙ c.in-Ok.ensures.all)
    c.in-Ok.ensures.left c.in-Err.ensures.left c.read_response-read.ensures.read

pub returns-in-Err-clause-counted : goal.returns-in-Err-clause-counted
returns-in-Err-clause-counted g c =
    Counted-unsent _ _ _ _ _ _ c.in-Ok.ensures.counted c.read_response-read.ensures.counted c.in-Err.ensures.counted
