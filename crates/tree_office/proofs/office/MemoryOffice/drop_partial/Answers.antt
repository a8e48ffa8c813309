use Rattle.tree_office.proofs.Keeping.{hosts_keep}
use Rattle.office_model.specs.laws.PartialLaws.{IsSound-without_partial}
use Rattle.tree_office.proofs.office.MemoryOffice.drop_partial.Goals as goal

pub invariant_of-self-2 : goal.invariant_of-self-2
invariant_of-self-2 c = hosts_keep _ _ _ _ c.self.invariant (λ part e. IsSound-without_partial _ c.args.name.now part c.self.invariant e) c.drop_partial.ensures
