use Rattle.reply_bodies.proofs.PlainReplies.{refusals_plain}
use Rattle.reply_bodies.proofs.laws.refusals_are_json.Goals as goal

pub returns : goal.returns
returns c = refusals_plain
