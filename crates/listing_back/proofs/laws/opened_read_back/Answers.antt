use Rattle.listing_back.proofs.BackLaws.{opened-back}
use Rattle.listing_back.proofs.laws.opened_read_back.Goals as goal

pub returns : goal.returns
returns c = opened-back
