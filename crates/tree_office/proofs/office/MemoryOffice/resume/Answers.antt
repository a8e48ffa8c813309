use Rattle.office_model.specs.laws.PartialLaws.{IsSound-resumed}
use Rattle.tree_office.proofs.office.MemoryOffice.resume.Goals as goal

pub invariant_of-self-2 : goal.invariant_of-self-2
invariant_of-self-2 c = IsSound-resumed _ c.args.name.now _ _ c.self.invariant c.deref.ensures.value c.in_ok-resume_dump.ensures
