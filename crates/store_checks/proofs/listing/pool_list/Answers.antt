use Rattle.std.proofs.Common.{refl}
use Rattle.store_checks.proofs.Lists.{runs_listed, runs_unlisted}
use Rattle.store_checks.proofs.listing.pool_list.Goals as goal

pub returns-in-Ok-clause-runs : goal.returns-in-Ok-clause-runs
returns-in-Ok-clause-runs g c = runs_listed c.args.parts.now c.args.part c.in-Ok.items c.in-Ok.ensures

pub returns-in-Ok-clause-lists : goal.returns-in-Ok-clause-lists
returns-in-Ok-clause-lists g c = (c.in-Ok.items, refl, c.in-Ok.ensures)

pub returns-in-Err-clause-runs : goal.returns-in-Err-clause-runs
returns-in-Err-clause-runs g c = runs_unlisted c.args.parts.now c.args.part
