use Rattle.std.proofs.Common.{refl}
use Rattle.turn_lock.specs.declared.steps.Held.TheVariants.{Home}
use Rattle.turn_lock.proofs.lock.Turn+O.take_object.Goals as goal

pub exchange-requires : goal.exchange-requires
exchange-requires g c = (c.requires.own, (Home c.requires.turn.0, rw c.requires.turn.1 refl))
