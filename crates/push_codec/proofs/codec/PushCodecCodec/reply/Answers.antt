use Rattle.push_codec.proofs.KindLemmas.{read-kind}
use Rattle.push_codec.proofs.codec.PushCodecCodec.reply.Goals as goal

pub returns-clause-in_kind : goal.returns-clause-in_kind
returns-clause-in_kind c = read-kind c.args.event.now c.args.status c.args.body.now c.read_reply.result c.read_reply.ensures
