use Rattle.tree_office.proofs.Keeping.{staged_keeps}
use Rattle.tree_office.proofs.office.MemoryOffice.put_staged.Goals as goal

pub invariant_of-self-2 : goal.invariant_of-self-2
invariant_of-self-2 c = staged_keeps _ c.args.session c.args.path.now c.args.file.now c.args.full _ _ c.self.invariant c.in_ok-put_staged.ensures.ok
