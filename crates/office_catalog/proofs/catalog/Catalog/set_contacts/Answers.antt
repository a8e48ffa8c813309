use Rattle.std.proofs.Common.{refl}
use Rattle.office_catalog.specs.Known.{given_contacts}
use Rattle.office_catalog.proofs.Keeping.{kept_change, change_is, in_view}
use Rattle.office_catalog.proofs.catalog.Catalog.set_contacts.Goals as goal

pub invariant_of-self : goal.invariant_of-self
invariant_of-self c =
    kept_change (given_contacts c.args.good c.args.bad) c.args.host c.self.inside.hosts c.self.inside.named c.index_mut.result.now c.set_contacts.new.self (record { name = λ index. refl; host = λ index. refl })
    (in_view _ _ _ _ c.self.view_is c.requires) (λ index there. (c.self.invariant.are.each c.args.host index there).sound) c.index_mut.ensures.value c.set_contacts.ensures c.self.invariant

pub returns : goal.returns
returns c =
    change_is (given_contacts c.args.good c.args.bad) c.args.host c.self.inside.epoch c.self.inside.hosts.items c.args.self.now c.index_mut.result.now c.set_contacts.new.self c.self.view_is
    (in_view _ _ _ _ c.self.view_is c.requires) c.index_mut.ensures.value c.set_contacts.ensures
