use Rattle.std.proofs.Common.{refl}
use Rattle.browse_http.proofs.heads.request_of.Goals as goal

pub returns : goal.returns
returns c = record {
  head = refl;
  body = c.body_of-body.ensures;
  closes = c.is_last-closes.ensures;
  is_head = c.asks_head-is_head.ensures;
}
