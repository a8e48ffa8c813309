use Rattle.std.proofs.Common.{◌≡◌, map, take}
use Rattle.office_model.specs.declared.event.Event.TheVariants as E
use Rattle.migrate_work.proofs.work.events_after.Given as goal

abbrev pub invariant-loop-host : goal.invariant-loop-host
invariant-loop-host l = l.events.items ≡ map E.Migrate (take l.host-index l.hosts)
