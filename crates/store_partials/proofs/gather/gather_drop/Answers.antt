-- What was read is there.
use Rattle.std.proofs.Common.{sym}
use Rattle.std.proofs.lemmas.Option.{slice_get_within}
use Rattle.store_partials.specs.GatherLaws.{parked_there}
use Rattle.store_partials.proofs.gather.gather_drop.Goals as goal

pub returns-in_default-of_host-clause-partial : goal.returns-in_default-of_host-clause-partial
returns-in_default-of_host-clause-partial g c = parked_there _ c.args.head c.args.host c.in-Ok.parked c.in-Ok.ensures.parked

pub returns-in-Ok-take_table-clause-within : goal.returns-in-Ok-take_table-clause-within
returns-in-Ok-take_table-clause-within g c =
    slice_get_within c.args.held.now c.args.place c.in-Some-of_host.old.now (sym c.in-Some-of_host.ensures)

pub returns-in-Ok-take_table-clause-partial : goal.returns-in-Ok-take_table-clause-partial
returns-in-Ok-take_table-clause-partial g c = parked_there _ c.args.head c.args.host c.in-Ok.parked c.in-Ok.ensures.parked
