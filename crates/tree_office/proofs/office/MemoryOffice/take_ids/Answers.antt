use Rattle.office_model.specs.Office.{with_ids}
use Rattle.office_model.specs.laws.IdLaws.{IsSound-ids}
use Rattle.tree_office.proofs.office.MemoryOffice.take_ids.Goals as goal

pub invariant_of-self : goal.invariant_of-self
invariant_of-self c = IsSound-ids _ c.self.inside.ids.entries c.self.invariant
