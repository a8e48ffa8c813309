use Rattle.std.proofs.Common.{◌∙◌}
use Rattle.http_wire.specs.Wires.{seen_of}
use Rattle.http_client.specs.Requests.{ask_of}
use Rattle.remote_port.proofs.HearingLemmas.{Hears-response}
use Rattle.remote_port.proofs.hearing.hear.Goals as goal

pub returns-in-Ok-clause-heard : goal.returns-in-Ok-clause-heard
returns-in-Ok-clause-heard g c =
    Hears-response g.C.Codec.request_of g.C.Codec.says (seen_of c.args.wire.now) (seen_of c.respond.new.wire) c.args.event.now
    (ask_of c.request_in-request.result) c.in-Ok.response c.reply_in.result (c.request_in-request.ensures ∙ c.requires) c.in-Ok.ensures.responded c.reply_in.ensures.reads
