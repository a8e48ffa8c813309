use Rattle.std.proofs.Common.{◌≡◌, ◌++◌, map, take}
use Rattle.office_model.specs.declared.event.Event.TheVariants as E
use Rattle.night_work.proofs.events.push_expiries.Given as goal

abbrev pub invariant-loop-host : goal.invariant-loop-host
invariant-loop-host l = l.events.items ≡ l.initial.events.items ++ map (λ host. E.Expire host l.now) (take l.host-index l.hosts)
