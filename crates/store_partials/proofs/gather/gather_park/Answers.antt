-- What was read is there.
use Rattle.std.proofs.Common.{sym}
use Rattle.std.proofs.lemmas.Option.{slice_get_within}
use Rattle.store_partials.specs.GatherLaws.{parked_there}
use Rattle.store_partials.proofs.gather.gather_park.Goals as goal

pub returns-in_default-clause-partial : goal.returns-in_default-clause-partial
returns-in_default-clause-partial g c = parked_there _ c.args.head c.args.host c.in-Ok.parked c.in-Ok.ensures.parked

pub returns-in-Ok-counts_parked-clause-within : goal.returns-in-Ok-counts_parked-clause-within
returns-in-Ok-counts_parked-clause-within g c =
    slice_get_within c.args.held.now c.args.place c.in-Some.old.now (sym c.in-Some.ensures)

pub returns-in-Ok-counts_parked-clause-partial : goal.returns-in-Ok-counts_parked-clause-partial
returns-in-Ok-counts_parked-clause-partial g c = parked_there _ c.args.head c.args.host c.in-Ok.parked c.in-Ok.ensures.parked
