use Rattle.office_catalog.proofs.Keeping.{kept_pushed, new_name}
use Rattle.office_catalog.proofs.catalog.Catalog.add.Goals as goal

pub place_of-place-requires-clause-fresh : goal.place_of-place-requires-clause-fresh
place_of-place-requires-clause-fresh c = new_name _ _ _ _ _ c.args.named c.args.index c.self.view_is c.requires c.as_slice.ensures.value c.self.invariant.by_name

pub invariant_of-self : goal.invariant_of-self
invariant_of-self c =
    kept_pushed c.self.inside.hosts c.push.new.self c.self.inside.named c.insert.new.self c.as_slice.result.now c.args.self.now c.self.inside.epoch c.args.index c.args.named c.place_of-place.result
    c.self.view_is c.requires c.as_slice.ensures.value c.place_of-place.ensures c.in-Ok-push.ensures.items c.in-Ok.ensures.items c.in-Ok-push.ensures.capacity c.in-Ok.ensures.capacity
    c.self.invariant
