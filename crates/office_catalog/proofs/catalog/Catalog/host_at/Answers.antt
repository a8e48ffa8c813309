use Rattle.office_catalog.proofs.Keeping.{host_found, host_within}
use Rattle.office_catalog.proofs.catalog.Catalog.host_at.Goals as goal

pub returns-in-Some : goal.returns-in-Some
returns-in-Some c =
    let value = host_found _ _ _ _ _ c.args.name.now _ c.self.view_is c.as_slice.ensures.value c.self.invariant.by_name c.in-Some.ensures in
    record { value = value; within = host_within _ _ _ value }

pub returns-in-None : goal.returns-in-None
returns-in-None c = record { value = host_found _ _ _ _ _ c.args.name.now _ c.self.view_is c.as_slice.ensures.value c.self.invariant.by_name c.in-None.ensures; within = tt }
