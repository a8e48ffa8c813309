-- Entry by entry.
use Rattle.pool_changes.proofs.Totals.{totals_end, totals_few}
use Rattle.pool_changes.proofs.listing.stats.Goals as goal

pub with_name-stats-requires-clause-few : goal.with_name-stats-requires-clause-few
with_name-stats-requires-clause-few c = totals_few c.args.names.now.map c.loop-slot.stats _ c.iter-slot-items.ensures.fits c.loop-slot.invariant

pub returns : goal.returns
returns c = totals_end c.args.names.now.map c.loop-slot.stats _ c.iter-slot-items.ensures.ordered c.loop-slot.invariant c.in-None.ensures.steps.0
