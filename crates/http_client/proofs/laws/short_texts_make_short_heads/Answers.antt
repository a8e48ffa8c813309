use Rattle.http_client.proofs.MessageLaws.{short-heads}
use Rattle.http_client.proofs.laws.short_texts_make_short_heads.Goals as goal

pub returns : goal.returns
returns c = short-heads
