use Rattle.turn_port.specs.ComesLaws.{Comes-more}
use Rattle.turn_port.proofs.locked.LockedStoreObject.act.Goals as goal

pub returns : goal.returns
returns g c = λ opening log by comes. Comes-more opening.store _ _ log by _ _ comes c.apply.ensures.serves
