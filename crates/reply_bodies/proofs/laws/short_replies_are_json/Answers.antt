use Rattle.reply_bodies.proofs.PlainReplies.{short_replies}
use Rattle.reply_bodies.proofs.laws.short_replies_are_json.Goals as goal

pub returns : goal.returns
returns c = short_replies
