use Rattle.std.proofs.Common.{ap, refl}
use Rattle.turn_port.proofs.locked.lock_store.Goals as goal

pub returns-in-Ok-clause-opening : goal.returns-in-Ok-clause-opening
returns-in-Ok-clause-opening g c =
    let made = c.in-Ok.ensures.ok.1 in ((_, ap (λ m. m.0.opening) made, refl), ap (λ m. m.0.seen) made, ap (λ m. m.0.callers) made)
