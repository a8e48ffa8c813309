use Rattle.office_catalog.proofs.Keeping.{kept_none}
use Rattle.office_catalog.proofs.catalog.Catalog.with_epoch.Goals as goal

pub invariant_of-result : goal.invariant_of-result
invariant_of-result c =
    kept_none _ _ c.in_ok-with_capacity.ensures.items c.in_ok-with_capacity-2.ensures.items c.in_ok-with_capacity.ensures.capacity c.in_ok-with_capacity-2.ensures.capacity
