use Rattle.pool_changes.specs.Kept.{slots_of}
use Rattle.store_checks.specs.ListingLaws.{picked_part}
use Rattle.store_checks.proofs.listing.items_of.Goals as goal

pub returns : goal.returns
returns g c = picked_part c.args.part (slots_of c.args.pool.now.names) _ _ c.in_ok-bucket.ensures c.as_slice.ensures c.picked.result c.picked.ensures
