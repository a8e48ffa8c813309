use Rattle.listing_back.proofs.BackLaws.{listings-back}
use Rattle.listing_back.proofs.laws.listings_read_back.Goals as goal

pub returns : goal.returns
returns c = listings-back
