use Rattle.tree_office.proofs.Keeping.{park_keeps}
use Rattle.tree_office.proofs.office.MemoryOffice.park.Goals as goal

pub invariant_of-self-2 : goal.invariant_of-self-2
invariant_of-self-2 c = park_keeps _ c.args.session _ _ _ c.self.invariant c.deref.ensures.value c.in_ok-park_dump.ensures.ok
