use Rattle.turn_lock.proofs.Keeps.{opens}
use Rattle.turn_lock.proofs.lock.Turn+O.new.Goals as goal

pub new-requires : goal.new-requires
new-requires g c = rw (c.in_default.ensures.items, c.new-slots.ensures.items, c.of-opening.ensures)
    (opens (g.O.Object.stands c.args.object) c.args.object c.args.object (g.met.O.Object.begins c.args.object))
