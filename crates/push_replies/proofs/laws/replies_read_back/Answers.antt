use Rattle.push_replies.proofs.BackLaws.{answers-back, refusals-back}
use Rattle.push_replies.proofs.laws.replies_read_back.Goals as goal

pub returns : goal.returns
returns c = record { answers = answers-back; refusals = refusals-back }
